-- The statements of specs/Laws.antt, proved. Assumes nothing.
use Rattle.who.specs.Laws.{NamedIsAllowed, SerialIsKept, ValuesFit, NothingReadsZero, HeldIsReadOut, ReadOutIsHeld, EightAreReadOut, ReadOnlyGivenWhen, RefusedHasNoValue, NamedGivenWhen, NamedHoldsIt, AllowedIsNamed, ReadOnlyAnswersHeld}
use Rattle.who.proofs.Identities.{named_allowed, serial_back, named_given, named_holds}
use Rattle.who.proofs.Serials.{allowed_named}
use Rattle.who.proofs.ReadOut.{values_small, nothing_zero, held_out, out_held, eight_out, read_only_given, refused_silent, read_only_held}

pub named_is_allowed : NamedIsAllowed
named_is_allowed = named_allowed

pub serial_is_kept : SerialIsKept
serial_is_kept = serial_back

pub named_given_when : NamedGivenWhen
named_given_when = named_given

pub named_holds_it : NamedHoldsIt
named_holds_it = named_holds

pub allowed_is_named : AllowedIsNamed
allowed_is_named = allowed_named

pub values_fit : ValuesFit
values_fit = values_small

pub nothing_reads_zero : NothingReadsZero
nothing_reads_zero = nothing_zero

pub held_is_read_out : HeldIsReadOut
held_is_read_out = held_out

pub read_out_is_held : ReadOutIsHeld
read_out_is_held = out_held

pub eight_are_read_out : EightAreReadOut
eight_are_read_out = eight_out

pub read_only_given_when : ReadOnlyGivenWhen
read_only_given_when = read_only_given

pub refused_has_no_value : RefusedHasNoValue
refused_has_no_value = refused_silent

pub read_only_answers_held : ReadOnlyAnswersHeld
read_only_answers_held = read_only_held
