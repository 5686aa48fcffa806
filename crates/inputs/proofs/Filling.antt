-- What reads that follow one another leave in the buffer that they fill.
use Rattle.std.proofs.Common.{ℕ, ◌≡◌, ◌+◌, ◌≤◌, List, ◌++◌, length, take, length-take-le, ap, sym, ◌∙◌}
use borrow.Rule.Slice.PartMut.{put_mid, post_of}
use Rattle.std.proofs.Math.Seq.{take-append-add}
use Rattle.std.proofs.lemmas.List.{take-append-le}

-- the front of a buffer, of which the first a were filled, after a part of it was filled by n more
pub take_filled : (a k n : ℕ) (xs ys : List ℕ) → a ≤ length xs → n ≤ length ys → take (a + n) (put_mid a k xs ys) ≡ take a xs ++ take n ys
take_filled a k n xs ys p q =
    let rest = post_of a k xs in
    let front : length (take a xs) ≡ a = length-take-le a xs p in
    ap (λ m. take (m + n) (take a xs ++ (ys ++ rest))) (sym front)
    ∙ take-append-add (take a xs) (ys ++ rest) n
    ∙ ap (λ l. take a xs ++ l) (take-append-le n ys rest q)
