-- The statements of specs/Laws.antt, proved. Assumes nothing.
use Rattle.tally.specs.Laws.{TallySumsUp, AllAreCounted, AllowedIsWithin, RefusedIsStray, CountedIsAdded, BegunAnewExactly, EachCountsOnce}
use Rattle.tally.proofs.Counting.{within_of, of_within}
use Rattle.tally.proofs.Refusing.{stray_refused}
use Rattle.tally.proofs.Summing as summing
use Rattle.tally.proofs.Rounds as rounds

pub tally_sums_up : TallySumsUp
tally_sums_up = summing.sums_up_lem

pub all_are_counted : AllAreCounted
all_are_counted = summing.all_counted

pub allowed_is_within : AllowedIsWithin
allowed_is_within t = (within_of t, of_within t)

pub refused_is_stray : RefusedIsStray
refused_is_stray = stray_refused

pub counted_is_added : CountedIsAdded
counted_is_added = summing.added

pub begun_anew_exactly : BegunAnewExactly
begun_anew_exactly = rounds.anew_exactly

pub each_counts_once : EachCountsOnce
each_counts_once = rounds.each_once
