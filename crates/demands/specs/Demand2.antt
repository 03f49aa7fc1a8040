-- Demand 2. "A frame written by one end is read by the other as the same command and data, and a frame read whole is byte for byte the one the
-- writer makes for them. The number of confirmed settings is the number of replies that matched the Set due when they came." Each statement
-- is proved under its name in proofs/Theorems.antt. Assumes nothing.
use Rattle.std.specs.Prelude.{ℕ, ◌^◌, ◌%◌, ◌≤◌, ◌<◌, ◌≡◌, true, List, [], ◌∷◌, ◌++◌, length, take, pos, Ok}
use Rattle.paper.specs.Numbers as paper
use Rattle.laws.specs.Promise.{Given}
use Rattle.laws.specs.Cutting as Cutting
use Rattle.laws.specs.Cutting.{Offer, Step}
use Rattle.paper.specs.Numbers.{most_nibble, most_data, get_code, set_code, frame_room}
use Rattle.wire.specs.Frame.{frame}
use Rattle.endian.specs.Numbers.{little, from_little, said}
use Rattle.wire.specs.Parsing.{good, Ended}
use Rattle.stream.specs.Stream.{frames_of, left_by, outside}
use Rattle.stream.specs.Calls.{most_held, held_of, unfinished, allowed}
use Rattle.stream.specs.Laws.{broken_in, step_of}
use Rattle.stream.specs.declared.Held.{Held}
use Rattle.stream.specs.declared.Heard.{Heard}
use Rattle.wire.specs.Laws as wire
use Rattle.laws.specs.Lists.{Bytes}
use Rattle.settings.specs.Columns.{count, id_at, width_at}
use Rattle.settings.specs.Rules.{allowed_for}
use Rattle.settings.specs.declared.Setting.{Setting}
use Rattle.tables.specs.Rules as tables
use Rattle.tables.specs.Rules.{number_at, partner_number, changed}
use Rattle.tables.specs.declared.Table.{Table}
use Rattle.who.specs.Parts.{identity_of, no_readings}
use Rattle.who.specs.Laws.{is_serial, Holds}
use Rattle.who.specs.declared.Readings.{Readings}
use Rattle.answers.specs.Answers.{with_table, Sent, silent, sent, error}
use Rattle.requests.specs.Requests.{get_request, set_data, set_request}
use Rattle.board.specs.Calls.{answering, starting, storing}
use Rattle.listen.specs.Hearing.{box_hearing, box_hears}
use Rattle.answers.specs.declared.Outcome.{Outcome}
use Rattle.board.specs.Parts.{board_allowed}
use Rattle.board.specs.Refusals.{Says}
use Rattle.board.specs.Laws as board
use Rattle.board.specs.Laws.{is_sample, at_rest, comes_to}
use Rattle.board.specs.declared.Board.{Board}
use Rattle.board.specs.declared.Sample.{Sample}
use Rattle.board.specs.declared.Answered.{Answered}
use Rattle.reply.specs.Replies.{flag_of, rest}
use Rattle.reply.specs.Calls.{parsing}
use Rattle.reply.specs.declared.Status.{Status}
use Rattle.reply.specs.declared.Reply.{Reply}
use Rattle.requests.specs.Laws as requests
use Rattle.requests.specs.Calls.{get_written, set_written, writing}
use Rattle.requests.specs.declared.Request.{Request}
use Rattle.follow.specs.Laws as follow
use Rattle.demands.specs.Sets.{place_in, value_in, is_complete}
use Rattle.demands.specs.Talk.{Deed, is_calls, talk, said_to_all}

-- 1. Written by one end, read by the other as the same command and data: whole; and on the serial line, whatever frame is held unfinished there,
-- whatever follows, and by any row of calls that takes the bytes: first what the frame's colon ends, then the frame, then what follows. The box
-- hears these frames, and the board says of them what it says of each in turn.
abbrev pub WrittenIsRead : Type 0
WrittenIsRead = wire.WrittenIsRead

abbrev pub then_written : Held → ℕ → List ℕ → List ℕ → List Ended
then_written held command bytes more = broken_in (unfinished held) ++ good command bytes ∷ frames_of more

abbrev pub HearsWritten : (Held → List ℕ → ℕ → Given Heard) → Type 0
HearsWritten hear =
    (command : ℕ) (bytes : List ℕ) → command ≤ most_nibble → length bytes ≤ most_data → Bytes bytes
    → (held : Held) → length held.chars.bytes ≡ most_held → allowed held ≡ true → (more : List ℕ) (offers : List (Offer ℕ))
    → let end = Cutting.calls (λ h room piece. step_of (hear h piece room)) held (frame command bytes ++ more) offers in
    end.taken ≡ length (frame command bytes ++ more)
    → end
    ≡ record {
      state = held_of (left_by more);
      events = then_written held command bytes more;
      taken = length (frame command bytes ++ more);
    }

abbrev pub WrittenIsHeard : Type 0
WrittenIsHeard = HearsWritten box_hearing

abbrev pub WrittenIsAnswered : Type 0
WrittenIsAnswered =
    (command : ℕ) (bytes : List ℕ) → command ≤ most_nibble → length bytes ≤ most_data → Bytes bytes
    → (board : Board) → length board.held.chars.bytes ≡ most_held → allowed board.held ≡ true → (more : List ℕ) (deeds : List Deed) → is_calls deeds ≡ true
    → (talk board (frame command bytes ++ more) deeds).taken ≡ length (frame command bytes ++ more)
    → (talk board (frame command bytes ++ more) deeds).said ≡ said_to_all board.core (then_written board.held command bytes more)

-- 2. Read whole, it is byte for byte what the writer makes.
abbrev pub ReadIsWritten : Type 0
ReadIsWritten = wire.ReadIsWritten

-- "Command, data bytes and check sum to 0x55 modulo 256": in every frame written, and in every frame read whole.
abbrev pub WrittenSums : Type 0
WrittenSums = wire.WrittenSums

abbrev pub ReadSums : Type 0
ReadSums = wire.ReadSums

-- 3. "Frames, commands, replies and flags follow the published HEX protocol as the papers fix it". Good Gets and Sets, said of any way of
-- answering a piece of input, and met by the board's own call: the reply is the number now held; the value of each of the eight read-only
-- ids, in its width; the request itself, with that number stored and nothing else changed. "Setting an equal number is accepted."
abbrev pub GetsHeld : (Board → List ℕ → ℕ → Given Answered) → Type 0
GetsHeld answer =
    (board : Board) (k room : ℕ) → board_allowed board ≡ true → at_rest board → k < count → frame_room ≤ room
    → answer board (get_request (id_at k)) room
    ≡ comes_to board board.core Outcome.Answered (frame get_code (said (id_at k) 0 (little (width_at k) (number_at board.core.table k)))) (get_request (id_at k))

abbrev pub ReadOnlyHeld : (Board → List ℕ → ℕ → Given Answered) → Type 0
ReadOnlyHeld answer =
    (board : Board) (id : ℕ) (value : List ℕ) (room : ℕ) → board_allowed board ≡ true → at_rest board → frame_room ≤ room
    → Holds board.core.identity board.core.readings id value
    → answer board (get_request id) room ≡ comes_to board board.core Outcome.Answered (frame get_code (said id 0 value)) (get_request id)

abbrev pub SetsStored : (Board → List ℕ → ℕ → Given Answered) → Type 0
SetsStored answer =
    (board : Board) (k n room : ℕ) → board_allowed board ≡ true → at_rest board → k < count → frame_room ≤ room
    → allowed_for k n (partner_number board.core.table k) ≡ true
    → answer board (set_request k n) room ≡ comes_to board (with_table board.core (changed board.core.table k n)) Outcome.Answered (set_request k n) (set_request k n)

abbrev pub EqualsAccepted : (Board → List ℕ → ℕ → Given Answered) → Type 0
EqualsAccepted answer =
    (board : Board) (k room : ℕ) → board_allowed board ≡ true → at_rest board → k < count → frame_room ≤ room
    → let request = set_request k (number_at board.core.table k) in
    answer board request room ≡ comes_to board board.core Outcome.Answered request request

-- the value held is what the start was given, with readings 0, and then what the last store was given
abbrev pub StartIsReadOut : (Board → List ℕ → ℕ → Given Answered) → Type 0
StartIsReadOut answer =
    (product version : ℕ) (serial : List ℕ) (table : Table) (id : ℕ) (value : List ℕ) (room : ℕ) → is_serial serial ≡ true → tables.allowed table ≡ true
    → frame_room ≤ room → Holds (identity_of product version serial) no_readings id value
    → (answer (starting product version serial table).board (get_request id) room).written ≡ frame get_code (said id 0 value)

pub record Measured (given : Sample) (readings : Readings) : Type 0 where
  pub voltage_is : readings.voltage ≡ given.voltage
  pub current_is : readings.current ≡ given.current
  pub fine_is : readings.fine ≡ given.fine
  pub consumed_is : readings.consumed ≡ given.consumed
  pub charge_is : pos readings.charge ≡ given.charge

abbrev pub StoreIsReadOut : (Board → List ℕ → ℕ → Given Answered) → Type 0
StoreIsReadOut answer =
    (board : Board) (given : Sample) (readings : Readings) (id : ℕ) (value : List ℕ) (room : ℕ) → board_allowed board ≡ true → at_rest board
    → is_sample given ≡ true → Measured given readings → frame_room ≤ room → Holds board.core.identity readings id value
    → (answer (storing board given).board (get_request id) room).written ≡ frame get_code (said id 0 value)

pub record GoodAreAnswered : Type 0 where
  pub gets : GetsHeld answering
  pub read_only_gets : ReadOnlyHeld answering
  pub start_gets : StartIsReadOut answering
  pub store_gets : StoreIsReadOut answering
  pub sets : SetsStored answering
  pub equal_sets : EqualsAccepted answering

-- Every refusal is "given exactly when" its condition holds and none before it does, in the order "11, 12, then 1 to 10 as listed", and no
-- other number is given; and the outcome, the reply's bytes and what the board holds afterwards belong together: for every board, piece and
-- room. The conditions and the replies are those of specs/Refusals of `wire`, `answers` and `board`.
abbrev pub RefusalGivenWhen : Type 0
RefusalGivenWhen = board.RefusalGivenWhen

abbrev pub OutcomeAndReply : Type 0
OutcomeAndReply = board.OutcomeAndReply

-- The bytes that a board's call writes, handed to the box's call in any cutting that takes them all, are read as what the board meant: no
-- frame where nothing was sent, and else one, in which the box reads the kind, the status, the id and the value, the command that was not
-- known, the version inside response 5, the version or the product inside response 1. (A u16 has two bytes in every value of its type, so it is its
-- own remainder by 256 ^ 2.)
pub data Understood : Sent → List Ended → Type 0 where
  no_reply : Understood silent []
  as_error : {code : ℕ} {bytes : List ℕ} → parsing code bytes ≡ Ok (Reply.Error 0xAAAA) → Understood error (good code bytes ∷ [])
  as_done : {code : ℕ} {bytes : List ℕ} (number : ℕ) → parsing code bytes ≡ Ok Reply.Done → from_little bytes ≡ number % 256 ^ 2
      → Understood (sent paper.done_code (little 2 number)) (good code bytes ∷ [])
  as_unknown : {code : ℕ} {bytes : List ℕ} (command : ℕ) → parsing code bytes ≡ Ok (Reply.Unknown command)
      → Understood (sent paper.unknown_code (command ∷ [])) (good code bytes ∷ [])
  as_ping : {code : ℕ} {bytes : List ℕ} (version : ℕ) → parsing code bytes ≡ Ok (Reply.Ping (version % 256 ^ 2))
      → Understood (sent paper.pong_code (little 2 version)) (good code bytes ∷ [])
  as_get : {code : ℕ} {bytes : List ℕ} (status : Status) (id : ℕ) (value : List ℕ) → parsing code bytes ≡ Ok (Reply.Get status id) → rest bytes ≡ value
      → Understood (sent paper.get_code (said id (flag_of status) value)) (good code bytes ∷ [])
  as_set : {code : ℕ} {bytes : List ℕ} (status : Status) (id : ℕ) (value : List ℕ) → parsing code bytes ≡ Ok (Reply.Set status id) → rest bytes ≡ value
      → Understood (sent paper.set_code (said id (flag_of status) value)) (good code bytes ∷ [])

pub record Understands (board : Board) (piece : List ℕ) (given : Given Answered) (heard : Step Held Ended) : Type 0 where
  pub reply : Sent
  pub says : Says board piece given.answer.outcome reply given.answer.board.core
  pub understood : Understood reply heard.events
  pub none_left : heard.state ≡ held_of outside

abbrev pub RepliesAreUnderstood : Type 0
RepliesAreUnderstood =
    (board : Board) (piece : List ℕ) (room : ℕ) (offers : List (Offer ℕ))
    → let given = answering board piece room in
    let heard = Cutting.calls box_hears (held_of outside) given.written offers in
    heard.taken ≡ length given.written → Understands board piece given heard

-- Every request that the box writes is read by a board as that request: a Get of its id; a complete Set of its setting to its number. Said of
-- the bytes that the box's calls write with room enough, whatever follows them on the serial line: they are one frame, and a board that they
-- are handed to, in any cutting and whatever frame it holds unfinished, says of it what it says of that request.
pub record ReadAs (command : ℕ) (bytes : List ℕ) (request more : List ℕ) : Type 0 where
  pub frame_is : frames_of (request ++ more) ≡ good command bytes ∷ frames_of more
  pub board_says : (board : Board) (deeds : List Deed) → length board.held.chars.bytes ≡ most_held → allowed board.held ≡ true → is_calls deeds ≡ true
      → (talk board (request ++ more) deeds).taken ≡ length (request ++ more)
      → (talk board (request ++ more) deeds).said ≡ said_to_all board.core (then_written board.held command bytes more)

pub record GetRead (id : ℕ) (request more : List ℕ) : Type 0 where
  pub read_as_lem : ReadAs get_code (said id 0 []) request more
  pub id_is : from_little (take 2 (said id 0 [])) ≡ id

abbrev pub GetIsUnderstood : Type 0
GetIsUnderstood =
    (id room : ℕ) (more : List ℕ) → id < 256 ^ 2 → frame_room ≤ room
    → GetRead id (get_written id room).written more × GetRead id (writing (Request.Get id) room).written more

pub record SetRead (k n : ℕ) (request more : List ℕ) : Type 0 where
  pub read_as_lem : ReadAs set_code (set_data k n) request more
  pub complete : is_complete set_code (set_data k n) ≡ true
  pub setting_is : place_in (set_data k n) ≡ k
  pub number_is : from_little (value_in (set_data k n)) ≡ n

abbrev pub SetIsUnderstood : Type 0
SetIsUnderstood =
    (setting : Setting) (n room : ℕ) (more : List ℕ) → setting.index < count → setting.id ≡ id_at setting.index → n < 256 ^ width_at setting.index
    → frame_room ≤ room
    → SetRead setting.index n (set_written setting.index n room).written more
    × SetRead setting.index n (writing (Request.Set (record { setting = setting; number = n })) room).written more

-- Of every other request no byte is written: 11 without room, then 12 for a Set of no setting, of one whose place and id do not belong together,
-- or of a number that its width does not hold.
abbrev pub OthersAreRefused : Type 0
OthersAreRefused = requests.WriteGivenWhen

-- 4. For any events on a stream, the count that the last of a row of calls on a follower tells is the number of them that matched the Set then
-- due, by `matched`, which has no follower in it.
abbrev pub CountIsMatched : Type 0
CountIsMatched = follow.CountIsTold

-- What the same calls tell of how far the follower is, each exactly when: refused, equal, done, stopped at which Set, waiting for which.
abbrev pub StandingExactly : Type 0
StandingExactly = follow.StandingExactly
