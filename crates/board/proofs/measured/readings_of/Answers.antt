-- `board::measured::readings_of` meets its contract. Assumes nothing.
use mathlib.Core.Path.{◌≡◌, ◌∙◌}
use mathlib.Core.Bool.{true}
use borrow.Author.Rules.{rules}
use lib.IntN.{nat_abs}
use mir.Val.{SFits}
use mir.Syntax.{w64}
use Rattle.board.specs.Parts.{fits16, fits32, fits_charge, sample_fits, readings_of}
use Rattle.board.proofs.Signs.{some_told, none_told, told_16, told_32, told_charge, narrow_16, narrow_32}
use Rattle.board.proofs.measured.readings_of.Goals as goal
use Rattle.board.proofs.measured.readings_of.Goals.{Start, In_ok-ok, In_ok-ok-2, In_ok-ok-3, In_ok-ok-4, In_ok-ok-5}

wide-voltage : (s : Start) → SFits w64 s.args.given.voltage
wide-voltage s = search rules

wide-current : (s : Start) → SFits w64 s.args.given.current
wide-current s = search rules

wide-fine : (s : Start) → SFits w64 s.args.given.fine
wide-fine s = search rules

wide-consumed : (s : Start) → SFits w64 s.args.given.consumed
wide-consumed s = search rules

wide-charge : (s : Start) → SFits w64 s.args.given.charge
wide-charge s = search rules

-- a number that is there fits, and is the one given
voltage : (c : In_ok-ok) → SFits w64 c.args.given.voltage → (fits16 c.args.given.voltage ≡ true) × (c.in_ok-ok.field-0 ≡ c.args.given.voltage)
voltage c wide = some_told _ _ _ (c.in_ok-ok.ensures.value ∙ told_16 _ wide _ c.try_from.ensures)

current : (c : In_ok-ok-2) → SFits w64 c.args.given.current → (fits16 c.args.given.current ≡ true) × (c.in_ok-ok-2.field-0 ≡ c.args.given.current)
current c wide = some_told _ _ _ (c.in_ok-ok-2.ensures.value ∙ told_16 _ wide _ c.try_from-2.ensures)

fine : (c : In_ok-ok-3) → SFits w64 c.args.given.fine → (fits32 c.args.given.fine ≡ true) × (c.in_ok-ok-3.field-0 ≡ c.args.given.fine)
fine c wide = some_told _ _ _ (c.in_ok-ok-3.ensures.value ∙ told_32 _ wide _ c.try_from-3.ensures)

consumed : (c : In_ok-ok-4) → SFits w64 c.args.given.consumed → (fits32 c.args.given.consumed ≡ true) × (c.in_ok-ok-4.field-0 ≡ c.args.given.consumed)
consumed c wide = some_told _ _ _ (c.in_ok-ok-4.ensures.value ∙ told_32 _ wide _ c.try_from-4.ensures)

charge : (c : In_ok-ok-5) → SFits w64 c.args.given.charge → (fits_charge c.args.given.charge ≡ true) × (c.in_ok-ok-5.field-0 ≡ nat_abs c.args.given.charge)
charge c wide = some_told _ _ _ (c.in_ok-ok-5.ensures.value ∙ told_charge _ wide _ c.try_from-5.ensures)

pub returns-in_err-ok-2 : goal.returns-in_err-ok-2
unfolding sample_fits
returns-in_err-ok-2 c =
    let at = goal.at.returns-in_err-ok-2 c in
    c.from_residual-in_err-ok-2.ensures
    ∙ rw ((voltage at.In_ok-ok (wide-voltage at.Start)).0, none_told _ _ (c.in_err-ok-2.ensures.value ∙ told_16 _ (wide-current at.Start) _ c.try_from-2.ensures))

pub returns-in_err-ok-3 : goal.returns-in_err-ok-3
unfolding sample_fits
returns-in_err-ok-3 c =
    let at = goal.at.returns-in_err-ok-3 c in
    c.from_residual-in_err-ok-3.ensures
    ∙ rw ((voltage at.In_ok-ok (wide-voltage at.Start)).0, (current at.In_ok-ok-2 (wide-current at.Start)).0, none_told _ _ (c.in_err-ok-3.ensures.value ∙ told_32 _ (wide-fine at.Start) _ c.try_from-3.ensures))

pub returns-in_err-ok-4 : goal.returns-in_err-ok-4
unfolding sample_fits
returns-in_err-ok-4 c =
    let at = goal.at.returns-in_err-ok-4 c in
    c.from_residual-in_err-ok-4.ensures
    ∙ rw ((voltage at.In_ok-ok (wide-voltage at.Start)).0, (current at.In_ok-ok-2 (wide-current at.Start)).0, (fine at.In_ok-ok-3 (wide-fine at.Start)).0, none_told _ _ (c.in_err-ok-4.ensures.value ∙ told_32 _ (wide-consumed at.Start) _ c.try_from-4.ensures))

pub returns-in_err-ok-5 : goal.returns-in_err-ok-5
unfolding sample_fits
returns-in_err-ok-5 c =
    let at = goal.at.returns-in_err-ok-5 c in
    c.from_residual-in_err-ok-5.ensures
    ∙ rw ((voltage at.In_ok-ok (wide-voltage at.Start)).0, (current at.In_ok-ok-2 (wide-current at.Start)).0, (fine at.In_ok-ok-3 (wide-fine at.Start)).0, (consumed at.In_ok-ok-4 (wide-consumed at.Start)).0, none_told _ _ (c.in_err-ok-5.ensures.value ∙ told_charge _ (wide-charge at.Start) _ c.try_from-5.ensures))

pub returns : goal.returns
unfolding sample_fits readings_of
returns c =
    let at = goal.at.returns c in
    let v = voltage at.In_ok-ok (wide-voltage at.Start) in
    let i = current at.In_ok-ok-2 (wide-current at.Start) in
    let f = fine at.In_ok-ok-3 (wide-fine at.Start) in
    let a = consumed at.In_ok-ok-4 (wide-consumed at.Start) in
    let c5 = charge at.In_ok-ok-5 (wide-charge at.Start) in
    rw (v.0, i.0, f.0, a.0, c5.0, v.1, i.1, f.1, a.1, c5.1, narrow_16 c.args.given.voltage v.0, narrow_16 c.args.given.current i.0, narrow_32 c.args.given.fine f.0, narrow_32 c.args.given.consumed a.0)
