-- `class_ranges` meets its contract: the ranges of the class lie within the file, in chunks of eight bytes.
use mathlib.Core.Path.{ap, ◌∙◌}
use native.Mathlib.Omega.{arith}
use Rattle.std.specs.Prelude.{map}
use Rattle.class_file.specs.Search.{range_at}
use Rattle.class_file.proofs.Accepted.{laid, class_within, class_chunks}
use Rattle.class_file.proofs.check.class_ranges.Goals as goal

pub overflow_mul-class_count : goal.overflow_mul-class_count
overflow_mul-class_count c = omega (arith, class_within _ (laid _ c.requires.0) _ c.requires.1)

pub overflow_add-start : goal.overflow_add-start
overflow_add-start c = omega (arith, class_within _ (laid _ c.requires.0) _ c.requires.1)

pub slice_bounds-as_chunks-end : goal.slice_bounds-as_chunks-end
slice_bounds-as_chunks-end c = omega (arith, class_within _ (laid _ c.requires.0) _ c.requires.1)

pub returns : goal.returns
returns c =
    let w = class_within _ (laid _ c.requires.0) _ c.requires.1 in
    ap (map range_at) c.as_chunks.ensures.front ∙ class_chunks _ _ _ _ _ c.class_start-start.ensures c.class_count.ensures (omega arith) (omega arith)
