-- The statements of specs/Laws.antt, proved. Assumes nothing.
use mathlib.Core.Path.{refl}
use native.Mathlib.Omega.{arith}
use Rattle.endian.specs.Laws.{LittleIsRead, ReadIsLittle, ComplementIsRead, LittleIsBytewise, ComplementIsRest}
use Rattle.endian.proofs.RoundTrip.{little_read, read_little, complement_read}
use Rattle.endian.proofs.Little.{length_little, byte_little}

pub little_is_read : LittleIsRead
little_is_read = little_read

pub read_is_little : ReadIsLittle
read_is_little = read_little

pub complement_is_read : ComplementIsRead
complement_is_read = complement_read

pub little_is_bytewise : LittleIsBytewise
little_is_bytewise width n = record { count_is = length_little width n; byte_is = λ i h. byte_little width n i h }

pub complement_is_rest : ComplementIsRest
complement_is_rest width n = record { negative_is = λ h. omega arith; other_is = refl }
