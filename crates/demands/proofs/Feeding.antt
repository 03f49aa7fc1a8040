-- A board fed the list in any cutting, and a follower fed the board's replies. Assumes nothing.
use mathlib.Core.Path.{◌≡◌, refl, sym, ap, ap₂, subst, ◌∙◌}
use mathlib.Core.Bool.{Bool, true, false, cond, ◌&&◌, false≢true}
use mathlib.Core.List.{List, [], ◌∷◌, ◌++◌, map, append-nil}
use Prim.Native.Nat.{ℕ, ◌+◌, ◌-◌, ◌≤◌}
use native.Mathlib.Omega.{arith}
use borrow.Author.Tests.{leb-true}
use lib.ListN.{length, take, drop, length-append, length-map}
use lib.Seq.{take-length, take-append_seam, drop-append_seam, take-append-add}
use lib.Dec.{leb, ltb, eqb}
use Rattle.std.proofs.Common.{Ok}
use Rattle.paper.specs.Numbers as paper
use Rattle.laws.specs.Cutting as Cutting
use Rattle.laws.specs.Cutting.{Step, Offer}
use Rattle.laws.proofs.Bools.{and_left, and_right}
use Rattle.laws.specs.Promise.{Given}
use Rattle.paper.specs.Numbers.{frame_room, most_chars, set_code}
use Rattle.wire.specs.Frame.{frame}
use Rattle.wire.specs.Laws.{Writable}
use Rattle.wire.specs.Parsing.{Ended, refused, broken_says}
use Rattle.stream.specs.Stream.{Unfinished, outside, inside, frames_from, frames_of, left_by, taken}
use Rattle.stream.specs.Calls.{unfinished, allowed}
use Rattle.stream.specs.Laws.{broken_in}
use Rattle.stream.specs.declared.Held.{Held}
use Rattle.stream.proofs.Helds.{unfinished_outside}
use Rattle.stream.proofs.Reached.{unfinished_kept}
use Rattle.stream.proofs.Theorems.{written_is_heard, heard_from_anywhere}
use Rattle.tables.specs.declared.Table.{Table}
use Rattle.requests.specs.Requests.{set_data, set_request}
use Rattle.answers.specs.declared.Core.{Core}
use Rattle.board.specs.Parts.{board_allowed}
use Rattle.board.specs.Calls.{decided_by, heard_by, answering}
use Rattle.board.specs.declared.Board.{Board}
use Rattle.board.specs.declared.Answered.{Answered}
use Rattle.board.proofs.Pieces.{answering_heard, held_allowed}
use Rattle.board.proofs.Giving.{call_count}
use Rattle.board.proofs.Theorems.{answer_keeps_allowed}
use Rattle.listen.specs.Hearing.{box_hears}
use Rattle.listen.proofs.Hearing.{box_whole}
use Rattle.reply.specs.Events.{Event, refused_frame}
use Rattle.restore.specs.Order.{order, wanted, due_sets}
use Rattle.restore.specs.Calls.{both_allowed, frames_for, listed_as, listing}
use Rattle.restore.specs.Laws.{Tables}
use Rattle.requests.specs.declared.Wanted.{Wanted}
use Rattle.restore.proofs.Theorems.{list_restores_it, sets_are_differing}
use Rattle.follow.specs.Following.{standing, begun, advanced}
use Rattle.follow.specs.Calls.{answered, told, starting}
use Rattle.follow.specs.Laws as follow
use Rattle.follow.specs.Laws.{run, own_reply}
use Rattle.follow.specs.declared.Follower.{Follower}
use Rattle.follow.specs.declared.Standing.{Standing}
use Rattle.follow.proofs.Standings.{standing_is, refused_keeps}
use Rattle.follow.proofs.Counting.{all_done, Goes, begins}
use Rattle.follow.proofs.Reaching.{told_as}
use Rattle.follow.proofs.Theorems.{all_are_confirmed}
use Rattle.demands.specs.Talk.{Deed, stores, calls, is_calls, Talk, talk, after_all, said_to_all, board_at}
use Rattle.demands.specs.Demand3.{Rests, set_by_set, OneCallForEach, accepted, Stands, ListIsAccepted, replies_of, event_for, followed, Confirmed, ListIsConfirmed}
use Rattle.demands.proofs.Deciding.{Sound, took}
use Rattle.demands.proofs.Cuts.{cutting_read, on_line, Fit}
use Rattle.demands.proofs.Listing.{InTable, no_set, a_set, set_writable, frame_for, listed, due_in_lem, accepts_all, both_allowed_lem, made_list}

-- The list at a board that is not inside a frame: a call for each Set takes it.
call_takes_first : (core : Core) (first rest : List ℕ) (n room : ℕ) → board_allowed (board_at core outside) ≡ true → frame_room ≤ room → length first ≤ n
    → taken outside (first ++ take (n - length first) rest) ≡ length first → (answering (board_at core outside) (take n (first ++ rest)) room).answer.taken ≡ length first
unfolding heard_by decided_by
call_takes_first core first rest n room ok enough long is =
    let all : n ≡ length first + (n - length first) = omega arith in
    let piece : take n (first ++ rest) ≡ first ++ take (n - length first) rest = ap (λ (m : ℕ). take m (first ++ rest)) all ∙ take-append-add first rest (n - length first) in
    ap (λ (g : Given Answered). g.answer.taken) (answering_heard (board_at core outside) (take n (first ++ rest)) room enough ok)
    ∙ ap₂ taken (unfinished_kept outside) piece ∙ is

set_by_set_lem : {ws : List Wanted} → InTable ws → (core : Core) (deeds : List Deed) → Fit (board_at core outside) → set_by_set (map frame_for ws) deeds ≡ true
    → (is_calls deeds ≡ true) × ((talk (board_at core outside) (frames_for ws) deeds).taken ≡ length (frames_for ws))
set_by_set_lem no_set core [] f e = (refl, refl)
set_by_set_lem no_set core (d ∷ more) f e = absurd (false≢true e)
set_by_set_lem (a_set h later) core [] f e = absurd (false≢true e)
set_by_set_lem (a_set h later) core (stores given ∷ more) f e = absurd (false≢true e)
set_by_set_lem (a_set {w} {more} h later) core (calls n room ∷ ds) f e =
    let bytes : List ℕ = set_data w.setting.index w.number in
    let first : List ℕ = frame set_code bytes in
    let rest : List ℕ = frames_for more in
    let ok : Writable set_code bytes = set_writable w.setting.index w.number h in
    let own = and_left (leb (length first) n && leb frame_room room) _ e in
    let long : length first ≤ n = leb-true _ n (and_left (leb (length first) n) _ own) in
    let enough : frame_room ≤ room = leb-true frame_room room (and_right (leb (length first) n) _ own) in
    let ended = written_is_heard set_code bytes ok.nibble ok.few ok.small in
    let here = answering (board_at core outside) (take n (first ++ rest)) room in
    let t : ℕ = here.answer.taken in
    let count : t ≡ length first = call_takes_first core first rest n room f.ok enough long (ended (take (n - length first) rest)).2 in
    let front : take t (first ++ rest) ≡ first = ap (λ (m : ℕ). take m (first ++ rest)) count ∙ take-append_seam first rest in
    let back : drop t (first ++ rest) ≡ rest = ap (λ (m : ℕ). drop m (first ++ rest)) count ∙ drop-append_seam first rest in
    let left : left_by (take t (first ++ rest)) ≡ outside = ap left_by (front ∙ sym (append-nil first)) ∙ (ended []).1 in
    let after : Core = after_all core (frames_of (take t (first ++ rest))) in
    let next : here.answer.board ≡ board_at after outside = (took core outside (first ++ rest) n room).board_is ∙ ap (board_at after) left in
    let fit : Fit (board_at after outside) =
    subst Fit next (record { long = call_count (board_at core outside) _ room f.long; ok = answer_keeps_allowed (board_at core outside) _ room f.long f.ok }) in
    let goes = set_by_set_lem later after ds fit (and_right (leb (length first) n && leb frame_room room) _ e) in
    (goes.0, ap₂ (λ (a b : ℕ). a + b) count (ap₂ (λ (b : Board) (l : List ℕ). (talk b l ds).taken) next back ∙ goes.1) ∙ sym (length-append first rest))

at_rest_lem : (board : Board) → Rests board → board ≡ board_at board.core outside
at_rest_lem board rests = on_line board rests.held_long (held_allowed board rests.is_allowed) ∙ ap (board_at board.core) (unfinished_outside board.held rests.not_inside)

pub one_call_each : OneCallForEach
one_call_each board to rests two room enough deeds e =
    let line : board ≡ board_at board.core outside = at_rest_lem board rests in
    let made = made_list board.core.table to two room enough in
    let sets : List Wanted = due_sets board.core.table to in
    let fit : Fit (board_at board.core outside) = subst Fit line (record { long = two.from_long; ok = rests.is_allowed }) in
    let row : set_by_set (map frame_for sets) deeds ≡ true = rw (made, (listed (due_in_lem board.core.table to)).frames_are) at e in
    let goes = set_by_set_lem (due_in_lem board.core.table to) board.core deeds fit row in
    (goes.0, rw made (subst (λ (b : Board). (talk b (frames_for sets) deeds).taken ≡ length (frames_for sets)) (sym line) goes.1))

fed : (core : Core) (to : Table) → Tables core.table to → (deeds : List Deed) → is_calls deeds ≡ true
    → (talk (board_at core outside) (frames_for (due_sets core.table to)) deeds).taken ≡ length (frames_for (due_sets core.table to))
    → Stands (board_at core outside) to (listed_as (due_sets core.table to)) (talk (board_at core outside) (frames_for (due_sets core.table to)) deeds)
fed core to two deeds e all =
    let sets : List Wanted = due_sets core.table to in
    let bytes : List ℕ = frames_for sets in
    let end : Talk = talk (board_at core outside) bytes deeds in
    let sound : Sound core.table = record { long = two.from_long; ok = two.from_allowed } in
    let reads = cutting_read core outside bytes deeds e in
    let whole : take end.taken bytes ≡ bytes = ap (λ (n : ℕ). take n bytes) all ∙ take-length bytes in
    let list = listed (due_in_lem core.table to) in
    let restored = list_restores_it core.table to two in
    let ends = accepts_all core sound (due_in_lem core.table to) restored.each_accepted in
    let frames : end.frames ≡ frames_of bytes = reads.frames_are ∙ ap frames_of whole in
    let said : end.said ≡ map accepted (frames_of bytes) =
    reads.said_is ∙ ap (said_to_all core) (frames ∙ list.frames_are) ∙ ends.all_said ∙ ap (map accepted) (sym list.frames_are) in
    let many : length end.said ≡ length sets =
    ap length said ∙ length-map (frames_of bytes) accepted ∙ ap length list.frames_are ∙ length-map sets frame_for in
    record {
      frames_are = frames;
      each_accepted = said;
      counts_are = ap₂ (λ (l n : ℕ). Ok (record { len = l; sets = n })) (sym all) (sym many);
      board_is = reads.board_is ∙ rw (frames, whole, list.frames_are, list.none_left, ends.all_after, restored.wanted_stands);
    }

pub list_accepted : ListIsAccepted
list_accepted board to rests two room enough deeds e all =
    let line : board ≡ board_at board.core outside = at_rest_lem board rests in
    let made = made_list board.core.table to two room enough in
    let bytes : List ℕ = frames_for (due_sets board.core.table to) in
    let fits : (talk (board_at board.core outside) bytes deeds).taken ≡ length bytes = subst (λ (b : Board). (talk b bytes deeds).taken ≡ length bytes) line (rw made at all) in
    rw made
    (subst (λ (b : Board). Stands b to (listed_as (due_sets board.core.table to)) (talk b bytes deeds)) (sym line) (fed board.core to two deeds e fits))

-- the board's replies are the list itself
replies_are : (ws : List Wanted) → replies_of (map accepted (map frame_for ws)) ≡ frames_for ws
replies_are [] = refl
replies_are (w ∷ ws) = ap (λ (l : List ℕ). set_request w.setting.index w.number ++ l) (replies_are ws)

-- and the box hears in them the Sets' own replies
own_events : (to : Table) (ks : List ℕ) → map event_for (map frame_for (map (wanted to) ks)) ≡ map own_reply (map (wanted to) ks)
own_events to [] = refl
own_events to (k ∷ ks) = ap (λ (l : List Event). own_reply (wanted to k) ∷ l) (own_events to ks)

-- a frame that the first colon breaks keeps it waiting
broken_waits : (n : ℕ) → event_for (broken_says n) ≡ refused_frame
unfolding broken_says
broken_waits n = by (ltb most_chars n)
  where
    by : (t : Bool) → event_for (cond t (refused paper.too_long) (refused paper.no_digit)) ≡ refused_frame
    by true = refl
    by false = refl

skips : (f : Follower) (u : Unfinished) (fs : List Ended) → run f (map event_for (broken_in u ++ fs)) ≡ run f (map event_for fs)
skips f outside fs = refl
skips f (inside chars) fs =
    ap (λ (e : Event). run (advanced f e) (map event_for fs)) (broken_waits (length chars)) ∙ ap (λ (g : Follower). run g (map event_for fs)) (refused_keeps f)

ran : (f : Follower) (u : Unfinished) {ws : List Wanted} → InTable ws → run f (map event_for (frames_from u (frames_for ws))) ≡ run f (map event_for (map frame_for ws))
ran f u no_set = refl
ran f u (a_set {w} {more} h later) =
    let bytes : List ℕ = set_data w.setting.index w.number in
    let ok : Writable set_code bytes = set_writable w.setting.index w.number h in
    let frames : frames_from u (frame set_code bytes ++ frames_for more) ≡ broken_in u ++ map frame_for (w ∷ more) =
    (heard_from_anywhere u set_code bytes ok.nibble ok.few ok.small (frames_for more)).0
    ∙ ap (λ (fs : List Ended). broken_in u ++ frame_for w ∷ fs) (listed later).frames_are in
    ap (λ (fs : List Ended). run f (map event_for fs)) frames ∙ skips f u (map frame_for (w ∷ more))

follows : (from to : Table) → both_allowed from to ≡ true → (held : Held) → length held.chars.bytes ≡ 74 → allowed held ≡ true → (offers : List (Offer ℕ))
    → (Cutting.calls box_hears held (frames_for (due_sets from to)) offers).taken ≡ length (frames_for (due_sets from to))
    → Confirmed from to (followed from to held (frames_for (due_sets from to)) offers)
unfolding starting
follows from to ok held long fits offers all =
    let sets : List Wanted = due_sets from to in
    let bytes : List ℕ = frames_for sets in
    let frames : List Ended = frames_from (unfinished held) bytes in
    let heard : (Cutting.calls box_hears held bytes offers).events ≡ frames = ap (λ (s : Step Held Ended). s.events) (box_whole held long fits bytes offers all) in
    let start : Goes from to (begun from to) = begins from to ok in
    let last : Follower = record { from = from; to = to; confirmed = length sets; stopped = false } in
    let runs : run (begun from to) (map event_for frames) ≡ last =
    ran (begun from to) (unfinished held) (due_in_lem from to) ∙ ap (run (begun from to)) (own_events to (order from to)) ∙ all_are_confirmed from to ok in
    let tells : followed from to held bytes offers ≡ answered last =
    ap (λ (fs : List Ended). follow.calls (told (begun from to)) (map event_for fs)) heard
    ∙ told_as from to ok (map event_for frames) ∙ ap answered runs in
    let stands : standing last ≡ cond (eqb (length sets) 0) Standing.Equal Standing.Done = sym (standing_is last _ (all_done from to ok (length sets) (omega arith))) in
    rw tells
    (record {
      all_confirmed = sets_are_differing from to;
      ends_as = stands ∙ ap (λ (n : ℕ). cond (eqb n 0) Standing.Equal Standing.Done) (sets_are_differing from to);
    })

pub list_confirmed : ListIsConfirmed
list_confirmed board to rests two room enough deeds e all held long fits offers taken-all =
    let from : Table = board.core.table in
    let made = made_list from to two room enough in
    let accepted-list = list_accepted board to rests two room enough deeds e all in
    let replies : replies_of (talk board (listing from to room).written deeds).said ≡ frames_for (due_sets from to) =
    ap replies_of accepted-list.each_accepted ∙ rw (made, (listed (due_in_lem from to)).frames_are) (replies_are (due_sets from to)) in
    rw replies (follows from to (both_allowed_lem from to two) held long fits offers (rw replies at taken-all))
