-- No sham passes, and the board and the follower do. The shams fall by computation on a board that was started with the factory table: each
-- definition that a sham passes through is opened and run.
use mathlib.Core.Path.{◌≡◌, refl, sym, ap, ◌∙◌}
use mathlib.Core.Bool.{Bool, true, false, false≢true}
use mathlib.Core.List.{List, [], ◌∷◌, ◌++◌}
use Prim.Native.Nat.{ℕ, ◌+◌, ◌<◌}
use native.Mathlib.Omega.{arith}
use borrow.Author.Tests.{leb-true, ltb-true}
use lib.ListN.{take, replicate}
use lib.Dec.{eqb}
use Rattle.laws.specs.Lists.{same}
use Rattle.laws.specs.Cutting.{Step}
use Rattle.laws.proofs.Lists.{same_self}
use Rattle.laws.specs.Promise.{overlaid, front_of, Given}
use Rattle.wire.specs.Digits.{digit, nibble}
use Rattle.wire.specs.Frame.{check, body, frame}
use Rattle.endian.specs.Numbers.{little, said}
use Rattle.wire.specs.Parsing.{Ended, good, refused, body_says, broken_says}
use Rattle.spans.specs.Few.{few, tidy}
use Rattle.stream.specs.Stream.{inside, taken, frames_of}
use Rattle.stream.specs.Calls.{held_of, unfinished}
use Rattle.stream.specs.declared.Held.{Held}
use Rattle.stream.specs.Calls as stream
use Rattle.settings.specs.Columns.{count, id_at, width_at, partner_at, place_of}
use Rattle.paper.specs.declared.Refusal.{Refusal}
use Rattle.tables.specs.Rules.{factory, allowed, number_at, partner_number, changed}
use Rattle.settings.specs.Rules.{in_range, low_agrees, high_agrees, agrees, allowed_for, all_allowed}
use Rattle.settings.specs.Calls.{placing, finding}
use Rattle.tables.specs.Calls.{set_to}
use Rattle.tables.specs.declared.Table.{Table}
use Rattle.tables.proofs.Theorems.{factory_is_allowed}
use Rattle.tables.proofs.Tables.{range_at, agrees_at}
use Rattle.who.specs.Laws as who
use Rattle.who.specs.Parts.{serial_fits, identity_of, serial_of, identity_allowed}
use Rattle.paper.specs.Numbers.{get_code}
use Rattle.answers.specs.Answers.{core_allowed, with_table, sets_setting, set_answer, frame_answer}
use Rattle.requests.specs.Requests.{get_request, set_request}
use Rattle.answers.specs.declared.Outcome.{Outcome}
use Rattle.board.specs.Parts.{board_allowed, fresh_board}
use Rattle.board.specs.Calls.{starting, storing, unanswered, deciding, decided_by, heard_by, answering}
use Rattle.board.specs.Laws.{at_rest, comes_to}
use Rattle.board.specs.declared.Board.{Board}
use Rattle.board.specs.declared.Answered.{Answered}
use Rattle.board.proofs.Pieces.{answering_heard}
use Rattle.board.proofs.Theorems.{start_is_allowed, start_holds_it, get_answers_held, get_answers_read_only, set_stores_it}
use Rattle.listen.specs.Hearing.{box_hearing}
use Rattle.listen.specs.Calls.{is_over}
use Rattle.listen.specs.Calls as listen
use Rattle.listen.specs.Laws.{ReadsToTheEnd}
use Rattle.listen.specs.declared.Listener.{Listener}
use Rattle.listen.specs.declared.Listened.{Listened}
use Rattle.stream.proofs.Cuts.{taken_is}
use Rattle.listen.proofs.Theorems.{read_takes_to_the_end}
use Rattle.reply.specs.Events.{heard, refused_frame, nothing, a_frame, a_refusal}
use Rattle.restore.specs.Order.{differs, higher_first, exchanged, placed, turns_from, order}
use Rattle.follow.specs.Laws.{matched}
use Rattle.follow.proofs.Theorems.{count_is_told}
use Rattle.demands.specs.Sets.{any_setting, is_complete, is_valid, makes, made}
use Rattle.demands.specs.Talk.{Deed, stores, calls, Talk, Way, plainly, talk_by}
use Rattle.demands.specs.Demand2.{HearsWritten, GetsHeld, ReadOnlyHeld, SetsStored}
use Rattle.demands.specs.Demand3.{Decides}
use Rattle.demands.specs.Shams.{TakesToTheEnd, Counts, Asked, a_get, a_set, RefusesAll, AnswersAlike, ReadsByHeart, KeepsItsTable, first_set_alone, TakesUnseen, ReadsUnseen, unheard, leaves_digits, ShamsFall, RefusingDecides, RealPass}
use Rattle.demands.proofs.Deciding.{stores_keeps, board_decides}
use Rattle.demands.proofs.Understanding.{heard_written}

-- the place of the capacity, and a table with another capacity
abbrev capacity : ℕ
capacity = place_of 0x1000

abbrev with_capacity : ℕ → Table
with_capacity n = changed factory capacity n

capacity_in : capacity < count
unfolding partner_at place_of
capacity_in = ltb-true capacity count refl

other_allowed : allowed (with_capacity 500) ≡ true
unfolding partner_at place_of allowed all_allowed allowed_for in_range agrees low_agrees high_agrees
other_allowed = refl

no_serial : serial_fits [] ≡ true
unfolding serial_fits
no_serial = refl

-- a board of either table
abbrev started_with : Table → Board
started_with table = (starting 0 0 [] table).board

module _ (table : Table) (ok : allowed table ≡ true) where
  is_allowed : board_allowed (started_with table) ≡ true
  is_allowed = start_is_allowed 0 0 [] table

  at_rest_lem : at_rest (started_with table)
  at_rest_lem = (start_holds_it 0 0 [] table no_serial ok).held_is

  table_is : (started_with table).core.table ≡ table
  table_is = (start_holds_it 0 0 [] table no_serial ok).table_is

abbrev is_answered : Outcome → Bool
is_answered Outcome.Nothing = false
is_answered Outcome.Answered = true
is_answered Outcome.Restarted = false
is_answered Outcome.Ignored = false
is_answered (Outcome.Refused why) = false

-- the reply to a Get of the capacity, by the number and by the table
abbrev replied : ℕ → List ℕ
replied n = frame get_code (said (id_at capacity) 0 (little (width_at capacity) n))

abbrev reply : Table → List ℕ
reply t = replied (number_at t capacity)

factory_holds : number_at factory capacity ≡ 200
unfolding partner_at place_of
factory_holds = refl

other_holds : number_at (with_capacity 500) capacity ≡ 500
unfolding partner_at place_of
other_holds = refl

-- a Get of the capacity and a Set of it, put to any way of answering on a board of either table
module _ (answer : Board → List ℕ → ℕ → Given Answered) where
  abbrev asks_get : Table → Given Answered
  asks_get table = answer (started_with table) (get_request (id_at capacity)) 75

  abbrev asks_set : ℕ → Given Answered
  asks_set n = answer (started_with factory) (set_request capacity n) 75

  gets_held : GetsHeld answer → (table : Table) → allowed table ≡ true
      → asks_get table ≡ comes_to (started_with table) (started_with table).core Outcome.Answered
      (reply (started_with table).core.table) (get_request (id_at capacity))
  gets_held h table ok = h (started_with table) capacity 75 (is_allowed table ok) (at_rest_lem table ok) capacity_in (leb-true 75 75 refl)

  sets_stored : SetsStored answer → (n : ℕ) → allowed_for capacity n (partner_number (started_with factory).core.table capacity) ≡ true
      → asks_set n ≡ comes_to (started_with factory) (with_table (started_with factory).core (changed (started_with factory).core.table capacity n)) Outcome.Answered
      (set_request capacity n) (set_request capacity n)
  sets_stored h n ok =
      h (started_with factory) capacity n 75 (is_allowed factory factory_is_allowed) (at_rest_lem factory factory_is_allowed) capacity_in (leb-true 75 75 refl) ok

  allowed_500 : allowed_for capacity 500 (partner_number (started_with factory).core.table capacity) ≡ true
  unfolding partner_at place_of starting serial_fits allowed all_allowed allowed_for in_range agrees low_agrees high_agrees fresh_board
  allowed_500 = refl

  allowed_600 : allowed_for capacity 600 (partner_number (started_with factory).core.table capacity) ≡ true
  unfolding partner_at place_of starting serial_fits allowed all_allowed allowed_for in_range agrees low_agrees high_agrees fresh_board
  allowed_600 = refl

  -- an outcome that is a refusal is not the good one
  refused_not : (given : Given Answered) (n : Refusal) (e : given.answer.outcome ≡ Outcome.Refused n) → given.answer.outcome ≡ Outcome.Answered → ⊥
  refused_not given n e well = false≢true (ap is_answered (sym e ∙ well))

  refuses_all : RefusesAll answer → (GetsHeld answer → ⊥) × (SetsStored answer → ⊥)
  refuses_all r = (
    λ h.
        refused_not (asks_get factory) _ (r.refuses (started_with factory) (get_request (id_at capacity)) 75 (is_allowed factory factory_is_allowed) (leb-true 75 75 refl) (a_get capacity capacity_in))
        (ap (λ (g : Given Answered). g.answer.outcome) (gets_held h factory factory_is_allowed)),
    λ h.
        refused_not (asks_set 500) _ (r.refuses (started_with factory) (set_request capacity 500) 75 (is_allowed factory factory_is_allowed) (leb-true 75 75 refl) (a_set capacity 500 capacity_in))
        (ap (λ (g : Given Answered). g.answer.outcome) (sets_stored h 500 allowed_500)),
  )

  -- two replies that cannot be alike
  gets_differ : same (replied 200) (replied 500) ≡ false
  unfolding partner_at place_of frame body check digit
  gets_differ = refl

  sets_differ : same (set_request capacity 500) (set_request capacity 600) ≡ false
  unfolding partner_at place_of frame body check digit
  sets_differ = refl

  alike : AnswersAlike answer → (xs ys : List ℕ) (t u : Table) (p q : List ℕ) → Asked p → Asked q → same xs ys ≡ false → allowed t ≡ true → allowed u ≡ true
      → (answer (started_with t) p 75).written ≡ xs → (answer (started_with u) q 75).written ≡ ys → ⊥
  alike r xs ys t u p q asks asks' differ ok ok' one two =
      let all : xs ≡ ys =
      sym one ∙ r.writes (started_with t) p 75 (is_allowed t ok) (leb-true 75 75 refl) asks ∙ sym (r.writes (started_with u) q 75 (is_allowed u ok') (leb-true 75 75 refl) asks') ∙ two in
      false≢true (sym differ ∙ ap (λ (l : List ℕ). same l ys) all ∙ same_self ys)

  answers_alike : AnswersAlike answer → (GetsHeld answer → ⊥) × (SetsStored answer → ⊥)
  answers_alike r = (
    λ h.
        let one = ap (λ (g : Given Answered). g.written) (gets_held h factory factory_is_allowed) in
        let two = ap (λ (g : Given Answered). g.written) (gets_held h (with_capacity 500) other_allowed) in
        alike r _ _ factory (with_capacity 500) _ _ (a_get capacity capacity_in) (a_get capacity capacity_in) gets_differ factory_is_allowed other_allowed
        (one ∙ ap reply (table_is factory factory_is_allowed) ∙ ap replied factory_holds) (two ∙ ap reply (table_is (with_capacity 500) other_allowed) ∙ ap replied other_holds),
    λ h.
        let one = ap (λ (g : Given Answered). g.written) (sets_stored h 500 allowed_500) in
        let two = ap (λ (g : Given Answered). g.written) (sets_stored h 600 allowed_600) in
        alike r _ _ factory factory _ _ (a_set capacity 500 capacity_in) (a_set capacity 600 capacity_in) sets_differ factory_is_allowed factory_is_allowed one two,
  )

  -- a table that stays is not the one with the Set's number
  stays_not : (t : Table) → t ≡ factory → t ≡ with_capacity 500 → ⊥
  unfolding partner_at place_of
  stays_not t stays stored = false≢true (ap (λ (u : Table). eqb (number_at u capacity) 500) (sym stays ∙ stored))

  keeps_unstored : KeepsItsTable answer → SetsStored answer → ⊥
  keeps_unstored r h =
      let is : (started_with factory).core.table ≡ factory = table_is factory factory_is_allowed in
      stays_not _ (r (started_with factory) (set_request capacity 500) 75 ∙ is)
      (ap (λ (g : Given Answered). g.answer.board.core.table) (sets_stored h 500 allowed_500) ∙ ap (λ (t : Table). changed t capacity 500) is)

  one_taken : TakesToTheEnd answer → (answer (started_with factory) (take 15 (set_request capacity 500)) 75).answer.taken ≡ 15
  unfolding partner_at place_of starting serial_fits allowed all_allowed allowed_for in_range agrees low_agrees high_agrees fresh_board frame body check digit taken held_of unfinished
  one_taken h = h (started_with factory) (take 15 (set_request capacity 500)) 75 (is_allowed factory factory_is_allowed) (leb-true 75 75 refl)

  one_made : made any_setting factory (frames_of (take (15 + 0) (set_request capacity 500))) ≡ with_capacity 500
  unfolding digit nibble check body frame body_says in_range low_agrees high_agrees agrees partner_at place_of is_complete is_valid makes made
  one_made = refl

  keeps_undecided : KeepsItsTable answer → TakesToTheEnd answer → Decides (plainly answer) → ⊥
  keeps_undecided r takes h =
      let d = h 0 0 [] factory no_serial refl factory_is_allowed (set_request capacity 500) (calls 15 75 ∷ []) in
      stays_not _ (r (started_with factory) (take 15 (set_request capacity 500)) 75 ∙ table_is factory factory_is_allowed)
      (d.table_is ∙ ap (made any_setting factory) d.frames_are
      ∙ ap (λ (n : ℕ). made any_setting factory (frames_of (take (n + 0) (set_request capacity 500)))) (one_taken takes) ∙ one_made)

-- A Get of the version, on boards of two versions.
abbrev started_at : ℕ → Board
started_at v = (starting 0 v [] factory).board

abbrev told_version : ℕ → List ℕ
told_version v = frame get_code (said 0xEEF9 0 (little 2 v))

versions_differ : same (told_version 1) (told_version 2) ≡ false
unfolding frame body check digit
versions_differ = refl

module _ (answer : Board → List ℕ → ℕ → Given Answered) (held : ReadOnlyHeld answer) where
  version_told : (v : ℕ) → (answer (started_at v) (get_request 0xEEF9) 75).written ≡ told_version v
  version_told v =
      let began = start_holds_it 0 v [] factory no_serial factory_is_allowed in
      ap (λ (g : Given Answered). g.written) (held (started_at v) 0xEEF9 _ 75 (start_is_allowed 0 v [] factory) began.held_is (leb-true 75 75 refl) who.version)
      ∙ ap told_version began.version_is

  by_heart : (r : ReadsByHeart answer) (v : ℕ) → told_version v ≡ frame get_code (said 0xEEF9 0 (r.value 0xEEF9))
  by_heart r v = sym (version_told v) ∙ r.reads (started_at v) 0xEEF9 75 (start_is_allowed 0 v [] factory) (leb-true 75 75 refl) refl

  reads_by_heart : ReadsByHeart answer → ⊥
  reads_by_heart r =
      let alike : told_version 1 ≡ told_version 2 = by_heart r 1 ∙ sym (by_heart r 2) in
      false≢true (sym versions_differ ∙ ap (λ (l : List ℕ). same l (told_version 2)) alike ∙ same_self (told_version 2))

-- Two Sets of the capacity, end to end, and as many bytes that are no part of a frame.
abbrev two_sets : List ℕ
two_sets = set_request capacity 500 ++ set_request capacity 600

abbrev noise : List ℕ
noise = replicate 30 0

abbrev two_calls : List Deed
two_calls = calls 15 75 ∷ calls 15 75 ∷ []

first_set_alone_lem : Decides first_set_alone → ⊥
unfolding overlaid digit nibble check body frame body_says taken few tidy front_of held_of unfinished stream.allowed
    in_range low_agrees high_agrees agrees allowed_for all_allowed allowed placing partner_at place_of finding set_to
    serial_fits identity_of serial_of identity_allowed sets_setting set_answer frame_answer
    core_allowed board_allowed fresh_board starting deciding decided_by heard_by answering is_complete is_valid makes made
first_set_alone_lem h =
    let e : ◌≡◌ {A = Bool} false true = ap (λ (t : Table). eqb (number_at t capacity) 600) (h 0 0 [] factory refl refl refl two_sets two_calls).table_is in
    false≢true e

-- a count that is 15 and 30
not_both : (n : ℕ) → n ≡ 15 → n ≡ 30 → ⊥
not_both n a b = false≢true (ap (λ (m : ℕ). eqb m 30) (sym a ∙ b))

takes_unseen : (answer : Board → List ℕ → ℕ → Given Answered) (counted : Board → ℕ → ℕ → ℕ) → TakesUnseen answer counted → TakesToTheEnd answer → ⊥
unfolding partner_at place_of starting serial_fits allowed all_allowed allowed_for in_range agrees low_agrees high_agrees fresh_board frame body check digit taken held_of unfinished
takes_unseen answer counted u h =
    not_both (counted (started_with factory) 30 75)
    (sym (u (started_with factory) two_sets 75) ∙ h (started_with factory) two_sets 75 (is_allowed factory factory_is_allowed) (leb-true 75 75 refl))
    (sym (u (started_with factory) noise 75) ∙ h (started_with factory) noise 75 (is_allowed factory factory_is_allowed) (leb-true 75 75 refl))

reads_unseen : (read : Listener → List ℕ → ℕ → ℕ → Given Listened) (counted : Listener → ℕ → ℕ → ℕ → ℕ) → ReadsUnseen read counted → ReadsToTheEnd read → ⊥
unfolding partner_at place_of stream.allowed held_of few tidy front_of overlaid unfinished taken is_over frame body check digit
reads_unseen read counted u h =
    not_both (counted (listen.starting 0) 30 0 35)
    (sym (u (listen.starting 0) two_sets 0 35) ∙ h (listen.starting 0) two_sets 0 35 (leb-true 35 35 refl) refl refl)
    (sym (u (listen.starting 0) noise 0 35) ∙ h (listen.starting 0) noise 0 35 (leb-true 35 35 refl) refl refl)

-- one event is the reply to the one Set that is due, and another is a frame that was refused
counts_unheard : (counted : Table → Table → ℕ → ℕ) → Counts (unheard counted) → ⊥
unfolding partner_at place_of matched order turns_from placed exchanged higher_first differs allowed all_allowed allowed_for in_range agrees low_agrees high_agrees
counts_unheard counted h =
    let one : counted factory (with_capacity 500) 1 ≡ 1 =
    h factory (with_capacity 500) (heard 8 (0x00 ∷ 0x10 ∷ 0x00 ∷ 0xF4 ∷ 0x01 ∷ []) ∷ []) (a_frame (record { below = refl }) nothing) in
    let none : counted factory (with_capacity 500) 1 ≡ 0 = h factory (with_capacity 500) (refused_frame ∷ []) (a_refusal nothing) in
    false≢true (ap (λ (n : ℕ). eqb n 1) (sym none ∙ one))

-- a Ping after a digit of another frame
abbrev second_good : List Ended → Bool
second_good [] = false
second_good (f ∷ []) = false
second_good (f ∷ good command bytes ∷ more) = true
second_good (f ∷ refused number ∷ more) = false

digits_left : HearsWritten leaves_digits → ⊥
unfolding overlaid digit nibble check body frame body_says broken_says taken few tidy front_of held_of unfinished stream.allowed stream.hearing box_hearing
digits_left h =
    let e =
    h 1 [] (leb-true 1 15 refl) (leb-true 0 35 refl) (record { below = refl }) (held_of (inside (0x37 ∷ []))) refl refl []
    (record { count = 5; with = 35 } ∷ record { count = 5; with = 35 } ∷ []) refl in
    let f : ◌≡◌ {A = Bool} false true = ap (λ (s : Step Held Ended). second_good s.events) e in
    false≢true f

-- A board that refuses all: nothing is taken, and its table stays.
pub record Idle (first : Table) (end : Talk) : Type 0 where
  pub none_taken : end.taken ≡ 0
  pub no_frames : end.frames ≡ []
  pub table_same : end.board.core.table ≡ first

module _ (why : Refusal) where
  abbrev refusing : Way Board
  refusing = plainly (λ board piece room. unanswered board why)

  idles : (deeds : List Deed) (board : Board) (bytes : List ℕ) → Idle board.core.table (talk_by refusing board bytes deeds)
  idles [] board bytes = record { none_taken = refl; no_frames = refl; table_same = refl }
  idles (stores given ∷ more) board bytes =
      let later = idles more (storing board given).board bytes in
      record { none_taken = later.none_taken; no_frames = later.no_frames; table_same = later.table_same ∙ (stores_keeps board given).table_same }
  idles (calls n room ∷ more) board bytes =
      let later = idles more board bytes in
      record { none_taken = omega (arith, later.none_taken); no_frames = later.no_frames; table_same = later.table_same }

none_made : (t : Table) → made any_setting t [] ≡ t
unfolding made
none_made t = refl

pub refusing_decides : RefusingDecides
refusing_decides why product version serial table fits long ok bytes deeds =
    let first : Board = (starting product version serial table).board in
    let began = start_holds_it product version serial table fits ok in
    let end : Talk = talk_by (refusing why) first bytes deeds in
    let idle = idles why deeds first bytes in
    let same-table : end.board.core.table ≡ table = idle.table_same ∙ began.table_is in
    record {
      within = omega (arith, idle.none_taken);
      frames_are = idle.no_frames ∙ ap (λ (n : ℕ). frames_of (take n bytes)) (sym idle.none_taken);
      in_range_lem = λ k h. rw same-table (range_at table ok k h);
      pairs_agree = λ k h. rw same-table (agrees_at table ok k h);
      table_is = same-table ∙ sym (ap (made any_setting table) idle.no_frames ∙ none_made table);
    }

pub shams_fall : ShamsFall
shams_fall =
    record {
      refuses_all_falls = refuses_all;
      answers_alike_falls = answers_alike;
      reads_by_heart_falls = λ answer r held. reads_by_heart answer held r;
      stores_nothing_falls = λ answer r. (keeps_unstored answer r, keeps_undecided answer r);
      first_set_alone_falls = first_set_alone_lem;
      takes_unseen_falls = takes_unseen;
      reads_unseen_falls = reads_unseen;
      counts_unheard_falls = counts_unheard;
      digits_left_falls = digits_left;
    }

takes_real : TakesToTheEnd answering
unfolding heard_by decided_by
takes_real board piece room ok h = ap (λ (g : Given Answered). g.answer.taken) (answering_heard board piece room h ok) ∙ taken_is (unfinished board.held) piece

pub real_pass : RealPass
real_pass =
    record {
      board_gets = get_answers_held;
      board_reads = get_answers_read_only;
      board_sets = set_stores_it;
      board_decides = board_decides;
      board_takes = takes_real;
      box_takes = read_takes_to_the_end;
      box_hears_lem = heard_written;
      follower_counts = count_is_told;
    }
