-- Sham boards and boxes. Document 01, "How we judge a promise": "Four sham boards have to be shut out: one that refuses everything and one that
-- always answers alike (demand 2, good Gets and Sets); one that confirms but stores nothing, and one that handles the first Set truly and
-- fakes the rest (demand 3, [..]). A box that invents its confirmed or taken count falls to demand 2's reply count and the frame-end rule. A
-- never-changing table would keep ranges and pairs, so demand 3 always includes the Sets." What is asked, said of any way of answering; the
-- shams; and that none of them meets it, while the board and the follower do. Assumes nothing.
use Rattle.std.specs.Prelude.{ℕ, ◌≤◌, ◌<◌, ◌≡◌, Bool, true, false, cond, ◌&&◌, ◌||◌, List, [], ◌∷◌, length, take, eqb}
use Rattle.laws.specs.Promise.{Given}
use Rattle.paper.specs.Numbers.{frame_room, get_code, set_code, colon}
use Rattle.paper.specs.declared.Refusal.{Refusal}
use Rattle.wire.specs.Frame.{frame}
use Rattle.wire.specs.Parsing.{Ended, good, refused}
use Rattle.stream.specs.Calls.{unfinished}
use Rattle.stream.specs.declared.Held.{Held}
use Rattle.stream.specs.declared.Heard.{Heard}
use Rattle.settings.specs.Columns.{count, id_at}
use Rattle.tables.specs.Rules.{allowed}
use Rattle.tables.specs.declared.Table.{Table}
use Rattle.who.specs.Values.{read_only_ids, among}
use Rattle.answers.specs.Answers.{with_table}
use Rattle.endian.specs.Numbers.{said}
use Rattle.requests.specs.Requests.{get_request, set_request}
use Rattle.answers.specs.declared.Outcome.{Outcome}
use Rattle.board.specs.Parts.{board_allowed}
use Rattle.board.specs.Calls.{storing, answering, unanswered}
use Rattle.board.specs.declared.Board.{Board}
use Rattle.board.specs.declared.Answered.{Answered}
use Rattle.listen.specs.Hearing.{box_hearing}
use Rattle.listen.specs.Calls.{listening}
use Rattle.stream.specs.Laws.{to_the_end}
use Rattle.listen.specs.Laws.{ReadsToTheEnd}
use Rattle.listen.specs.declared.Listener.{Listener}
use Rattle.listen.specs.declared.Listened.{Listened}
use Rattle.reply.specs.Events.{Event, OnStream}
use Rattle.restore.specs.Order.{due_sets}
use Rattle.follow.specs.Calls as following
use Rattle.follow.specs.Laws as follow
use Rattle.follow.specs.Laws.{matched}
use Rattle.demands.specs.Talk.{Way, plainly, frames_at}
use Rattle.demands.specs.Demand2.{HearsWritten, GetsHeld, ReadOnlyHeld, SetsStored}
use Rattle.demands.specs.Demand3.{Decides}

-- the frame-end rule, as the box's call has it (`ReadsToTheEnd` of `listen`), of the board's
abbrev pub TakesToTheEnd : (Board → List ℕ → ℕ → Given Answered) → Type 0
TakesToTheEnd answer =
    (board : Board) (piece : List ℕ) (room : ℕ) → board_allowed board ≡ true → frame_room ≤ room
    → (answer board piece room).answer.taken ≡ to_the_end (unfinished board.held) piece

-- demand 2's reply count
abbrev pub Counts : (Table → Table → List Event → ℕ) → Type 0
Counts confirmed =
    (from to : Table) (events : List Event) → OnStream events → confirmed from to events ≡ cond (allowed from && allowed to) (matched (due_sets from to) events) 0

-- The shams, as the paper means them: all that do so, where a class can be named. What they are asked: a Get or a Set of a setting.
pub data Asked : List ℕ → Type 0 where
  a_get : (k : ℕ) → k < count → Asked (get_request (id_at k))
  a_set : (k n : ℕ) → k < count → Asked (set_request k n)

-- "refuses everything": with any refusal, whatever it writes and leaves
pub record RefusesAll (answer : Board → List ℕ → ℕ → Given Answered) : Type 0 where
  pub why : Board → List ℕ → ℕ → Refusal
  pub refuses : (board : Board) (request : List ℕ) (room : ℕ) → board_allowed board ≡ true → frame_room ≤ room → Asked request
      → (answer board request room).answer.outcome ≡ Outcome.Refused (why board request room)

-- "always answers alike": the same bytes, whatever they are
pub record AnswersAlike (answer : Board → List ℕ → ℕ → Given Answered) : Type 0 where
  pub bytes : List ℕ
  pub writes : (board : Board) (request : List ℕ) (room : ℕ) → board_allowed board ≡ true → frame_room ≤ room → Asked request → (answer board request room).written ≡ bytes

-- truthful on settings alone: each read-only id has its value by heart, whatever the board is and has measured
pub record ReadsByHeart (answer : Board → List ℕ → ℕ → Given Answered) : Type 0 where
  pub value : ℕ → List ℕ
  pub reads : (board : Board) (id room : ℕ) → board_allowed board ≡ true → frame_room ≤ room → among id read_only_ids ≡ true
      → (answer board (get_request id) room).written ≡ frame get_code (said id 0 (value id))

-- "confirms but stores nothing", and "a never-changing table": whatever it says
abbrev pub KeepsItsTable : (Board → List ℕ → ℕ → Given Answered) → Type 0
KeepsItsTable answer = (board : Board) (piece : List ℕ) (room : ℕ) → (answer board piece room).answer.board.core.table ≡ board.core.table

-- "handles the first Set truly and fakes the rest": it remembers whether it has handled one, and from then on confirms as the board would
-- and keeps its table (one that does so: what is true and what is faked is the board's own answer)
pub record Memory : Type 0 where
  pub board : Board
  pub handled : Bool

abbrev pub has_set : List Ended → Bool
has_set [] = false
has_set (good command bytes ∷ more) = eqb command set_code || has_set more
has_set (refused number ∷ more) = has_set more

abbrev pub leaving : Given Answered → Table → Given Answered
leaving given table =
    let a = given.answer in
    record {
      answer = record { board = record { core = with_table a.board.core table; held = a.board.held }; outcome = a.outcome; len = a.len; taken = a.taken };
      written = given.written;
    }

abbrev pub faking : Memory → List ℕ → ℕ → Given Answered
faking m piece room =
    let given = answering m.board piece room in
    cond m.handled (leaving given m.board.core.table) given

abbrev pub first_set_alone : Way Memory
first_set_alone =
    record {
      begins = λ board. record { board = board; handled = false };
      sees = λ m. m.board;
      answers = faking;
      next = λ m piece room.
          let given = faking m piece room in
          record { board = given.answer.board; handled = m.handled || has_set (frames_at m.board (take given.answer.taken piece)) };
      keeps = λ m given. record { board = (storing m.board given).board; handled = m.handled };
    }

-- "invents its [..] taken count": any count that does not look at the bytes, but at how many there are
abbrev pub TakesUnseen : (Board → List ℕ → ℕ → Given Answered) → (Board → ℕ → ℕ → ℕ) → Type 0
TakesUnseen answer count = (board : Board) (piece : List ℕ) (room : ℕ) → (answer board piece room).answer.taken ≡ count board (length piece) room

abbrev pub ReadsUnseen : (Listener → List ℕ → ℕ → ℕ → Given Listened) → (Listener → ℕ → ℕ → ℕ → ℕ) → Type 0
ReadsUnseen read count = (l : Listener) (piece : List ℕ) (time room : ℕ) → (read l piece time room).answer.taken ≡ count l (length piece) time room

-- "invents its confirmed [..] count": any count that does not look at what the replies are, but at how many events there were; the Sets that
-- were sent, for one
abbrev pub unheard : (Table → Table → ℕ → ℕ) → Table → Table → List Event → ℕ
unheard count from to events = count from to (length events)

-- the slip of leaving an unfinished frame's digits in the next (one that makes it): a colon inside a frame is told, but what was held stays
abbrev pub begins_anew : List ℕ → Bool
begins_anew [] = false
begins_anew (b ∷ piece) = eqb b colon

abbrev pub leaves_digits : Held → List ℕ → ℕ → Given Heard
leaves_digits held piece room =
    let given = box_hearing held piece room in
    record {
      answer = record { held = cond (held.inside && begins_anew piece) held given.answer.held; event = given.answer.event; taken = given.answer.taken };
      written = given.written;
    }

-- None of them passes.
pub record ShamsFall : Type 0 where
  pub refuses_all_falls : (answer : Board → List ℕ → ℕ → Given Answered) → RefusesAll answer → (GetsHeld answer → ⊥) × (SetsStored answer → ⊥)
  pub answers_alike_falls : (answer : Board → List ℕ → ℕ → Given Answered) → AnswersAlike answer → (GetsHeld answer → ⊥) × (SetsStored answer → ⊥)
  pub reads_by_heart_falls : (answer : Board → List ℕ → ℕ → Given Answered) → ReadsByHeart answer → ReadOnlyHeld answer → ⊥
  pub stores_nothing_falls : (answer : Board → List ℕ → ℕ → Given Answered) → KeepsItsTable answer
      → (SetsStored answer → ⊥) × (TakesToTheEnd answer → Decides (plainly answer) → ⊥)
  pub first_set_alone_falls : Decides first_set_alone → ⊥
  pub takes_unseen_falls : (answer : Board → List ℕ → ℕ → Given Answered) (count : Board → ℕ → ℕ → ℕ) → TakesUnseen answer count → TakesToTheEnd answer → ⊥
  pub reads_unseen_falls : (read : Listener → List ℕ → ℕ → ℕ → Given Listened) (count : Listener → ℕ → ℕ → ℕ → ℕ) → ReadsUnseen read count → ReadsToTheEnd read → ⊥
  pub counts_unheard_falls : (count : Table → Table → ℕ → ℕ) → Counts (unheard count) → ⊥
  pub digits_left_falls : HearsWritten leaves_digits → ⊥

-- A board that refuses every call by some refusal and takes nothing decides, as was said beside `Decides`; it is a RefusesAll.
abbrev pub RefusingDecides : Type 0
RefusingDecides = (why : Refusal) → Decides (plainly (λ board piece room. unanswered board why))

-- The board, the box's stream and the follower pass.
pub record RealPass : Type 0 where
  pub board_gets : GetsHeld answering
  pub board_reads : ReadOnlyHeld answering
  pub board_sets : SetsStored answering
  pub board_decides : Decides (plainly answering)
  pub board_takes : TakesToTheEnd answering
  pub box_takes : ReadsToTheEnd listening
  pub box_hears_lem : HearsWritten box_hearing
  pub follower_counts : Counts (λ from to events. (follow.calls (following.starting from to) events).confirmed)
