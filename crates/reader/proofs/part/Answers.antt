-- A part that begins past its end begins at its end, and is empty.
use Prim.Native.Nat.{ℕ, min}
use mathlib.Core.Path.{sym, ap, ◌∙◌}
use lib.ListN.{take, drop}
use Rattle.std.proofs.lemmas.List.{length-take-le, drop_min}
use Rattle.std.proofs.lemmas.Slice.{between_is}
use Rattle.reader.proofs.part.Goals as goal

pub returns : goal.returns
returns c =
    let s = c.args.text.now in
    let from = c.args.from in
    let to = c.args.to in
    between_is s c.min.result to
    ∙ ap (λ (k : ℕ). drop k (take to s)) c.min.ensures
    ∙ ap (λ (k : ℕ). drop (min from k) (take to s)) (sym (length-take-le to s c.requires))
    ∙ drop_min from (take to s)
