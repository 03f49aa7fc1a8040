-- `sentences::seen` meets its contract. Assumes nothing.
use mathlib.Core.Path.{refl, ◌∙◌}
use Rattle.laws.proofs.Lists.{part_to_end}
use Rattle.lines.proofs.Adding.{from_start}
use Rattle.sentences.proofs.Viewing.{said_as, has_value}
use Rattle.sentences.proofs.seen.Goals as goal

pub slice_bounds-put_words-count : goal.slice_bounds-put_words-count
slice_bounds-put_words-count c = (has_value _ _ _ _ _ c.reply.ensures c.in-Understood.is _ refl).is_long

pub slice_bounds-put_words-start : goal.slice_bounds-put_words-start
slice_bounds-put_words-start c = (has_value _ _ _ _ _ c.reply.ensures c.in-Understood.is _ refl).is_long

pub put_words-requires : goal.put_words-requires
put_words-requires c =
    rw (part_to_end c.args.bytes.now _ 3 refl)
    (has_value _ _ _ _ _ c.reply.ensures c.in-Understood.is _ refl).is_understood_lem

pub returns-in-Nothing : goal.returns-in-Nothing
returns-in-Nothing c = c.start.ensures ∙ said_as _ _ _ _ _ c.reply.ensures c.in-Nothing.is _ refl

pub returns-in-Understood : goal.returns-in-Understood
returns-in-Understood c =
    from_start _ c.start-in-Understood.ensures c.put_words.ensures
    ∙ said_as _ _ _ _ _ c.reply.ensures c.in-Understood.is _ (part_to_end c.args.bytes.now _ 3 refl)

pub returns-in-Strange : goal.returns-in-Strange
returns-in-Strange c =
    from_start _ c.start-in-Strange.ensures c.put_strange.ensures
    ∙ said_as _ _ _ _ _ c.reply.ensures c.in-Strange.is _ refl
