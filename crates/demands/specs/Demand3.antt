-- Demand 3. "From a board started with an allowed table, after any bytes in any cutting, what a call did not take being handed on first, every
-- setting is in range, every pair agrees, and the table is what the complete, valid Sets among the bytes taken, in order, make of the first
-- one." Each statement is proved under its name in proofs/Theorems.antt. Assumes nothing.
use Rattle.std.specs.Prelude.{ℕ, ◌≤◌, ◌<◌, ◌≡◌, Bool, true, false, cond, not, ◌&&◌, List, [], ◌∷◌, ◌++◌, map, length, take, drop, get_or, leb, ltb, eqb, Some, None, Ok, Err}
use Rattle.laws.specs.Promise.{Given}
use Rattle.laws.specs.Lists.{every}
use Rattle.laws.specs.Cutting as Cutting
use Rattle.laws.specs.Cutting.{Offer, ready}
use Rattle.paper.specs.Numbers.{most_data, frame_room, set_code}
use Rattle.wire.specs.Frame.{frame}
use Rattle.wire.specs.Parsing.{Ended, good, refused}
use Rattle.stream.specs.Stream.{Unfinished, frames_from, left_from, frames_of}
use Rattle.stream.specs.Calls as stream
use Rattle.stream.specs.Calls.{most_held}
use Rattle.stream.specs.declared.Held.{Held}
use Rattle.settings.specs.Columns.{count, role_at}
use Rattle.settings.specs.Rules.{in_range, agrees}
use Rattle.tables.specs.Rules.{allowed, number_at, partner_number}
use Rattle.tables.specs.declared.Table.{Table}
use Rattle.who.specs.Parts.{serial_fits}
use Rattle.answers.specs.Answers.{with_table}
use Rattle.requests.specs.Requests.{set_data, set_request}
use Rattle.answers.specs.declared.Core.{Core}
use Rattle.answers.specs.declared.Outcome.{Outcome}
use Rattle.board.specs.Parts.{board_allowed}
use Rattle.board.specs.Calls.{starting, answering}
use Rattle.board.specs.declared.Board.{Board}
use Rattle.listen.specs.Hearing.{box_hearing, box_hears}
use Rattle.reply.specs.Events as events
use Rattle.restore.specs.Calls.{list_room, listing, due_in}
use Rattle.restore.specs.Laws as restore
use Rattle.restore.specs.Laws.{Tables, differing}
use Rattle.restore.specs.Answers.{Due, Listed}
use Rattle.follow.specs.Calls as following
use Rattle.follow.specs.Laws as follow
use Rattle.follow.specs.declared.Followed.{Followed}
use Rattle.follow.specs.declared.Standing.{Standing}
use Rattle.demands.specs.Sets.{any_setting, made}
use Rattle.demands.specs.Talk.{Deed, stores, calls, Said, Talk, Way, plainly, talk_by, talk, after_all, said_to_all, board_at, is_calls}

-- what holds after a conversation that began with the table `first`: its frames are those of the bytes taken, and the table is theirs
pub record Decided (first : Table) (bytes : List ℕ) (end : Talk) : Type 0 where
  pub within : end.taken ≤ length bytes
  pub frames_are : end.frames ≡ frames_of (take end.taken bytes)
  pub in_range_lem : (k : ℕ) → k < count → in_range k (number_at end.board.core.table k) ≡ true
  pub pairs_agree : (k : ℕ) → k < count → agrees (role_at k) (number_at end.board.core.table k) (partner_number end.board.core.table k) ≡ true
  pub table_is : end.board.core.table ≡ made any_setting first end.frames

-- 1. For every identity, every allowed table, every row of bytes and every row of deeds; said of any way of answering, so that it can be
-- tried on a sham, and of the board's own. A board that refuses every call and takes no byte meets it, as `refusing_decides` of Shams says: no
-- Set was among the bytes taken. The good Gets and Sets of demand 2 shut it out. (A table has its numbers in every value of the type, which `length` says; a serial that
-- does not fit is refused at the start.)
abbrev pub Decides : {S : Type 0} → Way S → Type 0
Decides way =
    (product version : ℕ) (serial : List ℕ) (table : Table) → serial_fits serial ≡ true → length table.numbers ≡ count → allowed table ≡ true
    → (bytes : List ℕ) (deeds : List Deed) → Decided table bytes (talk_by way (way.begins (starting product version serial table).board) bytes deeds)

abbrev pub BoardDecides : Type 0
BoardDecides = Decides (plainly answering)

-- "in any cutting": a conversation of calls alone says of the frames of the bytes taken what the board says of them one after the other, and
-- leaves the board that they leave, with the frame held that those bytes leave; from any state, with any pieces and any room.
pub record Read (core : Core) (u : Unfinished) (bytes : List ℕ) (end : Talk) : Type 0 where
  pub frames_are : end.frames ≡ frames_from u (take end.taken bytes)
  pub said_is : end.said ≡ said_to_all core end.frames
  pub board_is : end.board ≡ board_at (after_all core end.frames) (left_from u (take end.taken bytes))

abbrev pub AnyCutting : Type 0
AnyCutting =
    (core : Core) (u : Unfinished) (bytes : List ℕ) (deeds : List Deed) → is_calls deeds ≡ true → Read core u bytes (talk (board_at core u) bytes deeds)

-- So the cutting changes nothing: two rows of calls that take as many of the same bytes, as two that take them all do, end in the same board,
-- frames, outcomes and replies; and at the box in the same frames and the same frame held. (An array has its entries in every value of
-- its type, which `length` says here and below.)
pub record CuttingChangesNothing : Type 0 where
  pub at_board : (board : Board) → length board.held.chars.bytes ≡ most_held → (bytes : List ℕ) (deeds deeds' : List Deed) → is_calls deeds ≡ true → is_calls deeds' ≡ true
      → (talk board bytes deeds).taken ≡ (talk board bytes deeds').taken → talk board bytes deeds ≡ talk board bytes deeds'
  pub at_box : (held : Held) → length held.chars.bytes ≡ most_held → (bytes : List ℕ) (offers offers' : List (Offer ℕ))
      → (Cutting.calls box_hears held bytes offers).taken ≡ (Cutting.calls box_hears held bytes offers').taken
      → Cutting.calls box_hears held bytes offers ≡ Cutting.calls box_hears held bytes offers'

-- "An empty piece takes 0 and changes nothing."
pub record EmptyChangesNothing : Type 0 where
  pub at_board : (board : Board) (room : ℕ) → length board.held.chars.bytes ≡ most_held → board_allowed board ≡ true → frame_room ≤ room
      → answering board [] room ≡ record { answer = record { board = board; outcome = Outcome.Nothing; len = 0; taken = 0 }; written = [] }
  pub at_box : (held : Held) (room : ℕ) → length held.chars.bytes ≡ most_held → stream.allowed held ≡ true → most_data ≤ room
      → box_hearing held [] room ≡ record { answer = record { held = held; event = Ok None; taken = 0 }; written = [] }

-- Calls that are handed a byte at least and lend room enough take every byte, in as many calls as there are bytes; from any allowed state.
abbrev pub is_feeding : List Deed → Bool
is_feeding [] = true
is_feeding (stores given ∷ more) = false
is_feeding (calls count room ∷ more) = (leb 1 count && leb frame_room room) && is_feeding more

pub record AllIsTaken : Type 0 where
  pub at_board : (board : Board) (bytes : List ℕ) (deeds : List Deed) → length board.core.table.numbers ≡ count → board_allowed board ≡ true
      → is_feeding deeds ≡ true → length bytes ≤ length deeds → (talk board bytes deeds).taken ≡ length bytes
  pub at_box : (held : Held) (bytes : List ℕ) (offers : List (Offer ℕ)) → stream.allowed held ≡ true
      → ready (λ room. leb most_data room) offers ≡ true → length bytes ≤ length offers → (Cutting.calls box_hears held bytes offers).taken ≡ length bytes

-- 2. "Between any two allowed tables the restore list has one Set for each setting that differs and no other": the bytes that the list's call
-- writes are the Sets of a row of settings, end to end, and are read as those; in the row each setting that differs is named once, no other is,
-- and of any two the one that the paper puts first is first. The call's answer is the length of the bytes and the number of the Sets.
abbrev pub set_of : Table → ℕ → Ended
set_of to k = good set_code (set_data k (number_at to k))

abbrev pub sets_of : Table → List ℕ → List ℕ
sets_of to [] = []
sets_of to (k ∷ more) = set_request k (number_at to k) ++ sets_of to more

pub record IsList (from to : Table) (given : Given Listed) : Type 0 where
  pub settings : List ℕ
  pub bytes_are : given.written ≡ sets_of to settings
  pub frames_are : frames_of given.written ≡ map (set_of to) settings
  pub each_once : (k : ℕ) → k < count → restore.times k settings ≡ cond (eqb (number_at from k) (number_at to k)) 0 1
  pub no_other : every (λ k. ltb k count && not (eqb (number_at from k) (number_at to k))) settings ≡ true
  pub in_order : (i j : ℕ) → i < j → j < length settings → restore.goes_first from to (get_or settings i 0) (get_or settings j 0) ≡ true
  pub counts_are : given.answer ≡ Ok (record { len = length given.written; sets = differing count from to })

abbrev pub OneSetForEach : Type 0
OneSetForEach = (from to : Table) → Tables from to → (room : ℕ) → list_room ≤ room → IsList from to (listing from to room)

-- The Sets that are named one by one, after 0, 1, 2 and so on, are the list's frames in their order, and none is named after the last.
abbrev pub named : Due → List Ended
named (Ok (Some w)) = good set_code (set_data w.setting.index w.number) ∷ []
named (Ok None) = []
named (Err why) = refused why ∷ []

abbrev pub DueIsNext : Type 0
DueIsNext =
    (from to : Table) → Tables from to → (room : ℕ) → list_room ≤ room
    → (done : ℕ) → named (due_in from to done) ≡ take 1 (drop done (frames_of (listing from to room).written))

-- And so are those that a follower names, each confirmed before the next.
abbrev pub NamedIsListed : Type 0
NamedIsListed = follow.NamedIsListed

-- "given to a board that holds the first table and is not inside a frame, with reply room enough in each call and nothing between, every Set
-- is accepted and the second table stands." In any cutting: any row of calls that takes the bytes of the list, whatever the pieces.
pub record Rests (board : Board) : Type 0 where
  pub is_allowed : board_allowed board ≡ true
  pub not_inside : board.held.inside ≡ false
  pub held_long : length board.held.chars.bytes ≡ most_held

-- The ordinary feeding is such a row: a call for each Set with room enough, handed that Set at least.
abbrev pub set_by_set : List Ended → List Deed → Bool
set_by_set [] [] = true
set_by_set [] (deed ∷ more) = false
set_by_set (good command bytes ∷ sets) (calls count room ∷ more) = (leb (length (frame command bytes)) count && leb frame_room room) && set_by_set sets more
set_by_set (good command bytes ∷ sets) (stores given ∷ more) = false
set_by_set (good command bytes ∷ sets) [] = false
set_by_set (refused number ∷ sets) deeds = false

abbrev pub OneCallForEach : Type 0
OneCallForEach =
    (board : Board) (to : Table) → Rests board → Tables board.core.table to → (room : ℕ) → list_room ≤ room
    → let list = (listing board.core.table to room).written in
    (deeds : List Deed) → set_by_set (frames_of list) deeds ≡ true → (is_calls deeds ≡ true) × ((talk board list deeds).taken ≡ length list)

-- a Set accepted: answered, and the reply is the Set's own with flag 00, which is the request itself. (The list has no frame that is refused.)
abbrev pub accepted : Ended → Said
accepted (good command bytes) = record { outcome = Outcome.Answered; reply = frame command bytes }
accepted (refused why) = record { outcome = Outcome.Refused why; reply = [] }

pub record Stands (board : Board) (to : Table) (given : Given Listed) (end : Talk) : Type 0 where
  pub frames_are : end.frames ≡ frames_of given.written
  pub each_accepted : end.said ≡ map accepted (frames_of given.written)
  pub counts_are : given.answer ≡ Ok (record { len = end.taken; sets = length end.said })
  pub board_is : end.board ≡ record { core = with_table board.core to; held = board.held }

abbrev pub ListIsAccepted : Type 0
ListIsAccepted =
    (board : Board) (to : Table) → Rests board → Tables board.core.table to → (room : ℕ) → list_room ≤ room
    → let given = listing board.core.table to room in
    (deeds : List Deed) → is_calls deeds ≡ true → (talk board given.written deeds).taken ≡ length given.written
    → Stands board to given (talk board given.written deeds)

-- 3. The same with the box at the other end: it reads the board's replies, whatever frame it holds unfinished, in any row of calls that takes
-- them, and hands the follower each frame; then as many are confirmed as settings differ, and the follower says done, or equal where none does.
abbrev pub replies_of : List Said → List ℕ
replies_of [] = []
replies_of (s ∷ more) = s.reply ++ replies_of more

abbrev pub event_for : Ended → events.Event
event_for (good command bytes) = events.heard command bytes
event_for (refused why) = events.refused_frame

-- what the follower's calls answer on what the box hears of some bytes
abbrev pub followed : Table → Table → Held → List ℕ → List (Offer ℕ) → Followed
followed from to held bytes offers = follow.calls (following.starting from to) (map event_for (Cutting.calls box_hears held bytes offers).events)

pub record Confirmed (from to : Table) (f : Followed) : Type 0 where
  pub all_confirmed : f.confirmed ≡ differing count from to
  pub ends_as : f.standing ≡ cond (eqb (differing count from to) 0) Standing.Equal Standing.Done

abbrev pub ListIsConfirmed : Type 0
ListIsConfirmed =
    (board : Board) (to : Table) → Rests board → Tables board.core.table to → (room : ℕ) → list_room ≤ room
    → let from = board.core.table in
    let list = (listing from to room).written in
    (deeds : List Deed) → is_calls deeds ≡ true → (talk board list deeds).taken ≡ length list
    → let replies = replies_of (talk board list deeds).said in
    (held : Held) → length held.chars.bytes ≡ most_held → stream.allowed held ≡ true
    → (offers : List (Offer ℕ)) → (Cutting.calls box_hears held replies offers).taken ≡ length replies → Confirmed from to (followed from to held replies offers)
