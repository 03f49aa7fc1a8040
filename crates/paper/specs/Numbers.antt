-- The numbers that document 01 fixes for more than one crate, each beside its words. Assumes nothing.
use Rattle.std.specs.Prelude.{ℕ}
use Rattle.paper.specs.declared.Refusal.{Refusal}

-- "Numbers of refusal". "The order is 11, 12, then 1 to 10 as listed."

-- 1: "over 73 characters in the frame"
abbrev pub too_long : Refusal
too_long = Refusal.TooLong

-- 2: "a character is no digit, or a colon broke it"
abbrev pub no_digit : Refusal
no_digit = Refusal.NoDigit

-- 3: "under 3 characters, or an even count"
abbrev pub bad_count : Refusal
bad_count = Refusal.BadCount

-- 4: "sum is not 0x55"
abbrev pub bad_sum : Refusal
bad_sum = Refusal.BadSum

-- 5: "command 0, 2, 5, 9, B to F"
abbrev pub unknown_command : Refusal
unknown_command = Refusal.UnknownCommand

-- 6: "Ping, App version, Product id or Restart with data; Get with other than 3 data bytes; Set with under 3; request flags not 0"
abbrev pub malformed : Refusal
malformed = Refusal.Malformed

-- 7: "id not in either table below"
abbrev pub unknown_id : Refusal
unknown_id = Refusal.UnknownId

-- 8: "Set of a read-only id"
abbrev pub read_only_id : Refusal
read_only_id = Refusal.ReadOnlyId

-- 9: "Set of a setting, wrong value width"
abbrev pub wrong_width : Refusal
wrong_width = Refusal.WrongWidth

-- 10: "number not allowed"
abbrev pub number_not_allowed : Refusal
number_not_allowed = Refusal.NumberNotAllowed

-- 11: "lent buffer too short"
abbrev pub short_buffer : Refusal
short_buffer = Refusal.ShortBuffer

-- 12: "a handed-in number, state or table is not allowed"
abbrev pub not_allowed : Refusal
not_allowed = Refusal.NotAllowed

-- "Backup text". 13: "first line differs"
abbrev pub other_header : Refusal
other_header = Refusal.OtherHeader

-- 14: "not four digits as above, tab, 1 to 5 decimal digits with no leading zero but a lone 0, newline, or text ended"
abbrev pub bad_line : Refusal
bad_line = Refusal.BadLine

-- 15: "another id is due"
abbrev pub other_id : Refusal
other_id = Refusal.OtherId

-- 16: "outside own range"
abbrev pub out_of_range : Refusal
out_of_range = Refusal.OutOfRange

-- 17: "a pair disagrees"
abbrev pub pair_disagrees : Refusal
pair_disagrees = Refusal.PairDisagrees

-- 18: "bytes follow the last line"
abbrev pub more_bytes : Refusal
more_bytes = Refusal.MoreBytes

-- the number of each
abbrev pub number_of : Refusal → ℕ
number_of Refusal.TooLong = 1
number_of Refusal.NoDigit = 2
number_of Refusal.BadCount = 3
number_of Refusal.BadSum = 4
number_of Refusal.UnknownCommand = 5
number_of Refusal.Malformed = 6
number_of Refusal.UnknownId = 7
number_of Refusal.ReadOnlyId = 8
number_of Refusal.WrongWidth = 9
number_of Refusal.NumberNotAllowed = 10
number_of Refusal.ShortBuffer = 11
number_of Refusal.NotAllowed = 12
number_of Refusal.OtherHeader = 13
number_of Refusal.BadLine = 14
number_of Refusal.OtherId = 15
number_of Refusal.OutOfRange = 16
number_of Refusal.PairDisagrees = 17
number_of Refusal.MoreBytes = 18

-- "Frames": "`:`, a command nibble, data bytes as two digits each, a check byte as two digits, and a newline (byte 10)"
abbrev pub colon : ℕ
colon = 58

abbrev pub newline : ℕ
newline = 10

abbrev pub most_nibble : ℕ
most_nibble = 15

-- "Command, data bytes and check sum to 0x55 modulo 256."
abbrev pub frame_total : ℕ
frame_total = 0x55

-- "Data are 0 to 35 bytes, so at most 73 characters stand between colon and newline (*ours*)."
abbrev pub most_data : ℕ
most_data = 35

abbrev pub most_chars : ℕ
most_chars = 73

-- "A reply buffer needs 75 bytes, always": a frame of 35 data bytes is this long
abbrev pub frame_room : ℕ
frame_room = 75

-- "Ping (1)", "App version (3)", "Product id (4)", "Restart (6)", "Command A (Async)"; Get and Set are document 001's 7 and 8
abbrev pub ping_code : ℕ
ping_code = 1

abbrev pub version_code : ℕ
version_code = 3

abbrev pub product_code : ℕ
product_code = 4

abbrev pub restart_code : ℕ
restart_code = 6

abbrev pub get_code : ℕ
get_code = 7

abbrev pub set_code : ℕ
set_code = 8

abbrev pub async_code : ℕ
async_code = 0xA

-- "Ping (1) answers response 5, App version (3) response 1"; 5 has "response 3"; the error frame has response 4
abbrev pub done_code : ℕ
done_code = 1

abbrev pub unknown_code : ℕ
unknown_code = 3

abbrev pub error_code : ℕ
error_code = 4

abbrev pub pong_code : ℕ
pong_code = 5

-- "request flags not 0" are refused
abbrev pub no_flags : ℕ
no_flags = 0

-- "flag 00", "flag 01", "flag 02", "flag 04"
abbrev pub good_flag : ℕ
good_flag = 0

abbrev pub unknown_flag : ℕ
unknown_flag = 1

abbrev pub support_flag : ℕ
support_flag = 2

abbrev pub parameter_flag : ℕ
parameter_flag = 4

-- "Get with other than 3 data bytes; Set with under 3": an id and the flags come before a value
abbrev pub front : ℕ
front = 3

-- "Read-only values", by their ids
abbrev pub product_id : ℕ
product_id = 0x0100

abbrev pub serial_id : ℕ
serial_id = 0x010A

abbrev pub version_id : ℕ
version_id = 0xEEF9

abbrev pub voltage_id : ℕ
voltage_id = 0xED8D

abbrev pub current_id : ℕ
current_id = 0xED8F

abbrev pub fine_id : ℕ
fine_id = 0xED8C

abbrev pub consumed_id : ℕ
consumed_id = 0xEEFF

abbrev pub charge_id : ℕ
charge_id = 0x0FFF

-- "serial, 0 to 32 bytes of 0x20..0x7E"
abbrev pub most_serial : ℕ
most_serial = 32

-- "Writing needs 512 bytes of room."
abbrev pub text_room : ℕ
text_room = 512
