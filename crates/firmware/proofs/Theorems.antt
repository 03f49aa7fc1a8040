-- The statements of specs/Laws.antt, proved. Assumes nothing.
use Rattle.firmware.specs.Laws.{WrittenComesBack, ReadComesBack, NumberComesBack, HighIsNumber, RefusedIsAlone}
use Rattle.firmware.proofs.Packing.{written_back, read_back, number_back, number_high, refused_alone}

pub written_comes_back : WrittenComesBack
written_comes_back = written_back

pub read_comes_back : ReadComesBack
read_comes_back = read_back

pub number_comes_back : NumberComesBack
number_comes_back = number_back

pub high_is_number : HighIsNumber
high_is_number = number_high

pub refused_is_alone : RefusedIsAlone
refused_is_alone = refused_alone
