-- Laws of a few bytes: what is put after them, cut or not. Assumes nothing.
use mathlib.Core.Path.{◌≡◌, refl, sym, ap, ap₂, ◌∙◌}
use mathlib.Core.Bool.{true, false}
use mathlib.Core.List.{List, [], ◌∷◌, ◌++◌}
use Prim.Native.Nat.{ℕ, suc, ◌+◌, ◌-◌, ◌≤◌, ◌<◌, min}
use native.Mathlib.Omega.{arith}
use borrow.Rule.Slice.PartMut.{put_mid}
use borrow.Author.Tests.{lt-leb, le-leb, leb-true}
use lib.ListN.{length, take, drop, replicate, length-take, length-append, length-replicate}
use lib.Seq.{length-take-le, drop-append_seam}
use lib.Dec.{eqb, leb}
use Rattle.laws.specs.Lists.{every}
use Rattle.laws.specs.Promise.{overlaid, front_of}
use Rattle.laws.proofs.Bools.{and_left, and_right, both}
use Rattle.laws.proofs.Lists.{padded, take_min, take_again, part_to_end}
use Rattle.laws.proofs.Fronts.{padded_behind, front_is, front_taken, front_zeros, front_again, front_zero}
use Rattle.spans.specs.Few.{few, those, tidy}
use Rattle.spans.specs.declared.Few.{Few}

module _ (n : ℕ) where
  -- a few bytes by their two parts
  abbrev pub parts : ℕ → List ℕ → Few n
  parts len bytes = record { len = len; bytes = bytes }

  pub those_back : (bytes : List ℕ) → those (few n bytes) ≡ bytes
  unfolding few
  those_back bytes = front_taken n bytes

  -- what is cut never shows
  pub few_more : (bytes more : List ℕ) → few n (take n (those (few n (take n bytes)) ++ more)) ≡ few n (take n (bytes ++ more))
  few_more bytes more = ap (λ (l : List ℕ). few n (take n (l ++ more))) (those_back (take n bytes)) ∙ ap (few n) (take_again n bytes more)

  pub few_room : (bytes : List ℕ) → length bytes ≤ n → length (few n bytes).bytes ≡ n
  unfolding few
  few_room bytes fits = ap (λ (l : List ℕ). length l) (front_is n bytes) ∙ length-append bytes (replicate (n - length bytes) 0) ∙ rw length-replicate (omega (arith, fits))

  pub few_zeros : (bytes : List ℕ) → every (eqb 0) (drop (few n bytes).len (few n bytes).bytes) ≡ true
  unfolding few
  few_zeros bytes = front_zeros n bytes

  -- bytes copied to the front of zeros
  pub few_copied : (bytes : List ℕ) (len : ℕ) (array : List ℕ) → len ≡ min (length bytes) n → array ≡ overlaid (take n bytes) (replicate n 0) → parts len array ≡ few n (take n bytes)
  unfolding few front_of
  few_copied bytes len array count e = ap₂ parts (count ∙ sym (length-take n bytes ∙ omega arith)) e

  -- what is cut of an array with zeros behind it
  cut : (l : List ℕ) → take n (l ++ replicate n 0) ≡ front_of n (take n l)
  unfolding overlaid front_of
  cut l =
      let size : length (take n l) ≡ min (length l) n = length-take n l ∙ omega arith in
      let turned : min (length l) n ≡ min n (length l) = omega arith in
      sym (padded l n n (omega arith))
      ∙ ap₂ (λ (a b : List ℕ). a ++ b) (ap (λ (k : ℕ). take k l) turned ∙ take_min n l) (ap (λ (k : ℕ). drop k (replicate n 0)) (sym size))

  -- what a few have past their bytes
  module _ (own : List ℕ) (fits : length own ≤ n) where
    rest_zeros : drop (length own) (front_of n own) ≡ replicate (n - length own) 0
    rest_zeros =
        ap (drop (length own)) (front_is n own) ∙ drop-append_seam own (replicate (n - length own) 0)

    -- more bytes copied behind them, as many as there is room for
    put_after : (more last : List ℕ) → last ≡ overlaid (take (min (length more) (n - length own)) more) (take (n - length own) (drop (length own) (front_of n own)))
        → put_mid (length own) (n - length own) (front_of n own) last ≡ front_of n (take n (own ++ more))
    put_after more last e =
        let all : length own + (n - length own) ≡ n = omega (arith, fits) in
        let less : n - length own ≤ n = omega arith in
        ap (λ (l : List ℕ). l ++ (last ++ drop (n - length own) (drop (length own) (front_of n own)))) (front_taken n own)
        ∙ padded_behind own more (drop (length own) (front_of n own)) last (n - length own) n rest_zeros less e
        ∙ ap (λ (m : ℕ). take m ((own ++ more) ++ replicate n 0)) all
        ∙ cut (own ++ more)

    put_own : (more : List ℕ) (k : ℕ) (last : List ℕ)
        → k ≡ min (length more) (length (take (n - length own) (drop (length own) (front_of n own))))
        → last ≡ overlaid (take (length (take (n - length own) (drop (length own) (front_of n own)))) more)
        (take (n - length own) (drop (length own) (front_of n own)))
        → parts (length own + k) (put_mid (length own) (n - length own) (front_of n own) last) ≡ few n (take n (own ++ more))
    unfolding few
    put_own more k last count e =
        let size : length (take (n - length own) (drop (length own) (front_of n own))) ≡ n - length own =
        length-take-le (n - length own) (drop (length own) (front_of n own)) (rw (rest_zeros, length-replicate) (omega arith)) in
        let least : k ≡ min (length more) (n - length own) = rw size at count in
        let whole : last ≡ overlaid (take (n - length own) more) (take (n - length own) (drop (length own) (front_of n own))) = rw size at e in
        let turned : min (n - length own) (length more) ≡ min (length more) (n - length own) = omega arith in
        let taken : take (n - length own) more ≡ take (min (length more) (n - length own)) more =
        sym (take_min (n - length own) more) ∙ ap (λ (m : ℕ). take m more) turned in
        let len : length own + k ≡ length (take n (own ++ more)) = rw (length-take, length-append) (omega (arith, fits)) in
        ap₂ parts len
        (put_after more last (whole ∙ ap (λ (l : List ℕ). overlaid l (take (n - length own) (drop (length own) (front_of n own)))) taken))

  -- bytes copied behind those of an array that has zeros past them, in the words of the code
  put_at : (own more : List ℕ) (len room k : ℕ) (array last : List ℕ) → length own ≤ n → len ≡ length own → room ≡ n → array ≡ front_of n own
      → k ≡ min (length more) (length (take (room - len) (drop len array)))
      → last ≡ overlaid (take (length (take (room - len) (drop len array))) more) (take (room - len) (drop len array))
      → parts (len + k) (put_mid len (room - len) array last) ≡ few n (take n (own ++ more))
  put_at own more len room k array last fits is_len is_room is_array count copied =
      rw (is_len, is_room, is_array)
      (put_own own fits more k last (rw (is_len, is_room, is_array) at count) (rw (is_len, is_room, is_array) at copied))

  front_array : (old array : List ℕ) → array ≡ overlaid (take n old) (replicate n 0) → array ≡ front_of n (take n old)
  unfolding front_of
  front_array old array e = e

  -- some bytes copied to the front of zeros, and more behind them
  pub put_behind : (old more : List ℕ) (len k : ℕ) (array last : List ℕ) → len ≡ min (length old) n → array ≡ overlaid (take n old) (replicate n 0)
      → k ≡ min (length more) (length (take (length array - len) (drop len array)))
      → last ≡ overlaid (take (length (take (length array - len) (drop len array))) more) (take (length array - len) (drop len array))
      → parts (len + k) (put_mid len (length array - len) array last) ≡ few n (take n (old ++ more))
  unfolding few
  put_behind old more len k array last count copied count_more copied_more =
      let is_len : len ≡ length (take n old) = count ∙ sym (length-take n old ∙ omega arith) in
      let is_array : array ≡ front_of n (take n old) = front_array old array copied in
      let short : length (take n old) ≤ n = rw length-take (omega arith) in
      put_at (take n old) more len (length array) k array last short is_len (ap (λ (l : List ℕ). length l) is_array ∙ few_room (take n old) short) is_array count_more copied_more
      ∙ ap (few n) (take_again n old more)

  -- whether a few bytes are tidy, by the two tests
  module _ (f : Few n) where
    pub tidy_past : n < f.len → false ≡ tidy f
    unfolding tidy
    tidy_past many = rw (lt-leb f.len n many)

    pub tidy_within : f.len ≤ n → every (eqb 0) (take (length f.bytes - f.len) (drop f.len f.bytes)) ≡ tidy f
    unfolding tidy
    tidy_within few = rw (le-leb f.len n few) (ap (every (eqb 0)) (part_to_end f.bytes (length f.bytes) f.len refl))

  -- these bytes are tidy, and what is tidy is the one value of its bytes
  pub few_tidy : (bytes : List ℕ) → length bytes ≤ n → tidy (few n bytes) ≡ true
  unfolding tidy few
  few_tidy bytes fits = both _ _ (le-leb (length bytes) n fits) (front_zeros n bytes)

  module _ (f : Few n) (e : tidy f ≡ true) where
    pub tidy_most : f.len ≤ n
    unfolding tidy
    tidy_most = leb-true f.len n (and_left (leb f.len n) (every (eqb 0) (drop f.len f.bytes)) e)

    tidy_zeros : every (eqb 0) (drop f.len f.bytes) ≡ true
    unfolding tidy
    tidy_zeros = and_right (leb f.len n) (every (eqb 0) (drop f.len f.bytes)) e

  module _ (f : Few n) (long : length f.bytes ≡ n) (e : tidy f ≡ true) where
    tidy_size : length (those f) ≡ f.len
    tidy_size = length-take-le f.len f.bytes (omega (arith, long, tidy_most f e))

    tidy_front : front_of n (those f) ≡ f.bytes
    tidy_front = front_again n f.len f.bytes long (tidy_most f e) (tidy_zeros f e)

    pub tidy_few : f ≡ few n (those f)
    unfolding few
    tidy_few = ap₂ parts (sym tidy_size) (sym tidy_front)

    -- more bytes copied behind them, in their own array
    pub put_tidy : (more : List ℕ) (k : ℕ) (last : List ℕ)
        → k ≡ min (length more) (length (take (n - f.len) (drop f.len f.bytes)))
        → last ≡ overlaid (take (length (take (n - f.len) (drop f.len f.bytes))) more) (take (n - f.len) (drop f.len f.bytes))
        → parts (f.len + k) (put_mid f.len (n - f.len) f.bytes last) ≡ few n (take n (those f ++ more))
    put_tidy more k last count copied =
        let short : length (those f) ≤ n = omega (arith, tidy_size, tidy_most f e) in
        put_at (those f) more f.len n k f.bytes last short (sym tidy_size) refl (sym tidy_front) count copied

    -- and a zero more is in it already, where there is room for one
    pub zero_tidy : f.len < n → parts (suc f.len) f.bytes ≡ few n (those f ++ 0 ∷ [])
    unfolding few
    zero_tidy room =
        let short : suc (length (those f)) ≤ n = omega (arith, tidy_size, room) in
        let size : suc f.len ≡ length (those f ++ 0 ∷ []) = rw length-append (omega (arith, tidy_size)) in
        ap₂ parts size (sym (front_zero n (those f) short ∙ tidy_front))
