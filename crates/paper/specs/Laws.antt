-- What is proved of the numbers, as a statement to compare with document 01. It is proved under its name in proofs/Theorems.antt. Assumes
-- nothing.
use Rattle.std.specs.Prelude.{◌≡◌, [], ◌∷◌, map}
use Rattle.paper.specs.Numbers.{number_of, too_long, no_digit, bad_count, bad_sum, unknown_command, malformed, unknown_id, read_only_id, wrong_width, number_not_allowed, short_buffer, not_allowed, other_header, bad_line, other_id, out_of_range, pair_disagrees, more_bytes}

-- "Numbers of refusal" and "Backup text", from the first row to the last: the numbers as they are printed.
abbrev pub RefusalsArePrinted : Type 0
RefusalsArePrinted =
    map number_of
    (too_long ∷ no_digit ∷ bad_count ∷ bad_sum ∷ unknown_command ∷ malformed ∷ unknown_id ∷ read_only_id ∷ wrong_width ∷ number_not_allowed
    ∷ short_buffer ∷ not_allowed ∷ other_header ∷ bad_line ∷ other_id ∷ out_of_range ∷ pair_disagrees ∷ more_bytes ∷ [])
    ≡ 1 ∷ 2 ∷ 3 ∷ 4 ∷ 5 ∷ 6 ∷ 7 ∷ 8 ∷ 9 ∷ 10 ∷ 11 ∷ 12 ∷ 13 ∷ 14 ∷ 15 ∷ 16 ∷ 17 ∷ 18 ∷ []
