-- What a collector says of itself, and of the file of its settings. Assumes nothing.
use mathlib.Core.Path.{◌≡◌, refl, sym, ap, ◌∙◌}
use mathlib.Core.Bool.{Bool, true, false, false≢true}
use Prim.Native.Nat.{ℕ, ◌≤◌, ◌<◌}
use native.Mathlib.Omega.{arith}
use borrow.Author.Tests.{lt-ltb}
use Rattle.paper.specs.Numbers as paper
use Rattle.settings.specs.Columns.{count}
use Rattle.collect.specs.Collecting.{allowed}
use Rattle.collect.specs.Calls.{stage_of, good, stray, told}
use Rattle.collect.specs.declared.Collector.{Collector}
use Rattle.collect.specs.declared.Collected.{Collected}
use Rattle.collect.specs.declared.Stage.{Stage}
use Rattle.collect.proofs.Moving.{few_answered, allowed_within, told_good, told_stray}
use Rattle.collect.proofs.Calling.{done_all}
use Rattle.sentences.specs.Texts.{refused_text, read_text, collected_text, kept_text, file_text, saved_text}
use Rattle.sentences.specs.Laws.{Complete, ReadSaid, CollectorsCount}
use Rattle.sentences.specs.declared.Kept.{Kept}
use Rattle.lines.specs.Lines.{chars}
use Rattle.sentences.proofs.Ending.{between_joined, of_joined}

-- every setting was read
abbrev pub is_done : Stage → Bool
is_done Stage.Done = true
is_done (Stage.Stopped setting) = false
is_done (Stage.Waiting setting) = false
is_done (Stage.Refused refusal) = false

done_only : (s : Stage) → is_done s ≡ true → s ≡ Stage.Done
done_only Stage.Done e = refl
done_only (Stage.Stopped setting) e = absurd (false≢true e)
done_only (Stage.Waiting setting) e = absurd (false≢true e)
done_only (Stage.Refused refusal) e = absurd (false≢true e)

module _ (c : Collector) where
  pub own_good : allowed c ≡ true → told c ≡ good c
  own_good ok = sym (told_good c ok)

  own_stray : allowed c ≡ false → told c ≡ stray c
  own_stray ok = sym (told_stray c ok)

  -- it says that it is done exactly where it is
  pub done_read : is_done (told c).stage ≡ true → Complete c
  unfolding good stray
  done_read e = by (allowed c) refl
    where
      by : (t : Bool) → allowed c ≡ t → Complete c
      by true ok = record { is_allowed = ok; is_done_lem = done_only _ (sym (ap (λ (w : Collected). is_done w.stage) (own_good ok)) ∙ e) }
      by false ok = absurd (false≢true (sym (ap (λ (w : Collected). is_done w.stage) (own_stray ok)) ∙ e))

  pub read_done : Complete c → (told c).stage ≡ Stage.Done
  unfolding good
  read_done all = ap (λ (w : Collected). w.stage) (own_good all.is_allowed) ∙ all.is_done_lem

  -- the texts, by whether a start and events give it
  pub collected_good : allowed c ≡ true → collected_text c ≡ read_text (stage_of c.len c.stopped) c.len count
  unfolding collected_text good
  collected_good ok = ap (λ (w : Collected). read_text w.stage w.answered count) (own_good ok)

  pub collected_stray : allowed c ≡ false → collected_text c ≡ refused_text paper.not_allowed
  unfolding collected_text stray
  collected_stray ok = ap (λ (w : Collected). read_text w.stage w.answered count) (own_stray ok)

  pub saved_good : (kept : Kept) → allowed c ≡ true → saved_text c kept ≡ file_text (stage_of c.len c.stopped) c.len kept
  unfolding saved_text good
  saved_good kept ok = ap (λ (w : Collected). file_text w.stage w.answered kept) (own_good ok)

  pub saved_stray : (kept : Kept) → allowed c ≡ false → saved_text c kept ≡ refused_text paper.not_allowed
  unfolding saved_text stray
  saved_stray kept ok = ap (λ (w : Collected). file_text w.stage w.answered kept) (own_stray ok)

  pub saved_done : (kept : Kept) → Complete c → saved_text c kept ≡ kept_text kept c.len
  saved_done kept all =
      saved_good kept all.is_allowed ∙ ap (λ (s : Stage). file_text s c.len kept) all.is_done_lem

  all_answered : Complete c → c.len ≡ count
  all_answered all =
      let most : c.len ≤ count = few_answered c.len c.silences c.stopped (allowed_within c all.is_allowed) in
      let least : count ≤ c.len = done_all c.len c.stopped all.is_done_lem in
      omega arith

  -- its words, by its stage
  pub read_said : (o : Stage) (answered : ℕ) → collected_text c ≡ read_text o answered count → ReadSaid c o answered
  read_said o answered is =
      record {
        all_is = λ e. is ∙ rw e (between_joined (chars "all ") (chars " settings read") answered);
        stopped_is = λ setting e. is ∙ rw e (of_joined (chars "stopped: ") (chars " settings read") answered count);
        waiting_is = λ setting e. is ∙ rw e (of_joined (chars "not ended: ") (chars " settings read") answered count);
      }

  -- not all were read
  unread : (stopped : Bool) (kept : Kept) → c.len < count → file_text (stage_of c.len stopped) c.len kept ≡ chars "not saved: not every setting was read"
  unread true kept less = rw (lt-ltb c.len count less)
  unread false kept less = rw (lt-ltb c.len count less)

-- its own counts are printed
pub collectors_say : CollectorsCount
collectors_say c =
    record {
      read_is = λ ok. read_said c (stage_of c.len c.stopped) c.len (collected_good c ok);
      saved_is = λ all. saved_done c Kept.Whole all ∙ between_joined (chars "saved: ") (chars " settings") c.len;
      unsure_is = saved_done c Kept.Unsure;
      unread_is = λ kept ok less. saved_good c kept ok ∙ unread c c.stopped kept less;
      all_read = all_answered c;
    }
