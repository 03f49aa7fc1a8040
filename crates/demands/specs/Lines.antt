-- Document 01, "Worked lines to be shown together": "These thirteen are shown by a single statement, over one list, about the definitions
-- themselves". What the lines are comes first, then the list in the paper's order, then what it is for a line to hold. Assumes nothing.
use Rattle.std.specs.Prelude.{ℕ, ◌≡◌, Bool, true, false, ◌&&◌, List, [], ◌∷◌, map, length, eqb, Ok, Err}
use Prim.Native.Char.{code}
use Prim.Native.String.{String, [] as end, ◌∷◌ as ◌then◌}
use Rattle.laws.specs.Lists.{same}
use Rattle.laws.specs.Promise.{Given}
use Rattle.paper.specs.Numbers.{newline, frame_room, number_of}
use Rattle.tables.specs.Rules.{factory, changed}
use Rattle.settings.specs.Calls.{nearing}
use Rattle.settings.specs.Columns.{place_of}
use Rattle.tables.specs.declared.Table.{Table}
use Rattle.settings.specs.Answers.{Number}
use Rattle.answers.specs.declared.Outcome.{Outcome}
use Rattle.board.specs.Calls.{starting, answering}
use Rattle.board.specs.declared.Board.{Board}
use Rattle.board.specs.declared.Answered.{Answered}
use Rattle.restore.specs.Order.{due_sets}
use Rattle.requests.specs.declared.Wanted.{Wanted}

-- A line of the paper. A frame is written as it is printed there, from its colon to its check byte.
pub data Line : Type 0 where
  -- a request and its reply
  answered : (request reply : String) → Line
  -- a request that restarts the board, and nothing in reply
  restarted : (request : String) → Line
  -- a request, the number of its refusal, and its reply
  refused : (request : String) (number : ℕ) (reply : String) → Line
  -- an id, the number wished for it, the number that its partner holds, and the nearest allowed number
  nearest : (id wished partner number : ℕ) → Line
  -- the present table, the one that is wanted, and the ids of the Sets between them in their order
  restored : (from to : Table) (ids : List ℕ) → Line

-- the factory table with the numbers of two ids changed
abbrev pub with_pair : (lower number higher other : ℕ) → Table
with_pair lower number higher other = changed (changed factory (place_of lower) number) (place_of higher) other

abbrev pub lines : List Line
lines =
    answered ":154" ":501440B" ∷
    answered ":352" ":101440F" ∷
    answered ":451" ":181A330" ∷
    restarted ":64F" ∷
    answered ":70010003E" ":7001000C80076" ∷
    answered ":8001000F40148" ":8001000F40148" ∷
    refused ":800100000003D" 10 ":8001004010038" ∷
    refused ":" 3 ":4AAAAFD" ∷
    refused ":253" 5 ":30250" ∷
    refused ":82D0300204EAF" 10 ":82D0304000019" ∷  -- "Set 032D to 20000 while 032C is 0: nearest 0.", the factory table having 0 there
    nearest 0x032D 8700 30000 0 ∷  -- "With 032C 30000: 032D wished 8700 gives 0,
    nearest 0x032D 8701 30000 17400 ∷  -- 8701 gives 17400."
    -- "From 0320/0321 100/110 to 120/130: 0321 first."
    restored (with_pair 0x0320 100 0x0321 110) (with_pair 0x0320 120 0x0321 130) (0x0321 ∷ 0x0320 ∷ []) ∷
    []

-- the bytes of a frame: "Each frame has its newline."
abbrev pub printed_bytes : String → List ℕ
printed_bytes end = newline ∷ []
printed_bytes (c then more) = code c ∷ printed_bytes more

-- "version 4401, product A381, factory table"; the serial is empty
abbrev pub started : Board
started = (starting 0xA381 0x4401 [] factory).board

-- the call on that board, lent just the room that a reply needs
abbrev pub asked : String → Given Answered
asked request = answering started (printed_bytes request) frame_room

abbrev pub is_answered : Outcome → Bool
is_answered Outcome.Nothing = false
is_answered Outcome.Answered = true
is_answered Outcome.Restarted = false
is_answered Outcome.Ignored = false
is_answered (Outcome.Refused why) = false

abbrev pub is_restarted : Outcome → Bool
is_restarted Outcome.Nothing = false
is_restarted Outcome.Answered = false
is_restarted Outcome.Restarted = true
is_restarted Outcome.Ignored = false
is_restarted (Outcome.Refused why) = false

abbrev pub is_refused : ℕ → Outcome → Bool
is_refused n Outcome.Nothing = false
is_refused n Outcome.Answered = false
is_refused n Outcome.Restarted = false
is_refused n Outcome.Ignored = false
is_refused n (Outcome.Refused why) = eqb (number_of why) n

abbrev pub is_number : ℕ → Number → Bool
is_number n (Ok number) = eqb number n
is_number n (Err why) = false

-- the call on a request has the outcome that the test asks for, writes this reply and no other byte, and takes the whole request
abbrev pub answers_with : String → (Outcome → Bool) → List ℕ → Bool
answers_with request test reply =
    test (asked request).answer.outcome && same (asked request).written reply && eqb (asked request).answer.len (length reply)
    && eqb (asked request).answer.taken (length (printed_bytes request))

abbrev pub holds : Line → Bool
holds (answered request reply) = answers_with request is_answered (printed_bytes reply)
holds (restarted request) = answers_with request is_restarted []
holds (refused request number reply) = answers_with request (is_refused number) (printed_bytes reply)
holds (nearest id wished partner number) = is_number number (nearing id wished partner)
holds (restored from to ids) = same (map (λ (w : Wanted). w.setting.id) (due_sets from to)) ids

abbrev pub all_hold : List Line → Bool
all_hold [] = true
all_hold (line ∷ more) = holds line && all_hold more

-- The statement: every line of the list holds.
abbrev pub ThirteenHold : Type 0
ThirteenHold = all_hold lines ≡ true
