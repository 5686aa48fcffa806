-- No refusal has the number 0, which says that nothing is refused. Rests on nothing but the definition.
use native.Mathlib.Omega.{arith}
use mathlib.Core.Path.{◌≡◌}
use Rattle.definition.specs.Answers.{class_number, run_number}
use Rattle.definition.specs.declared.answers.ClassRefusal.{ClassRefusal}
use Rattle.definition.specs.declared.answers.ClassRefusal.TheVariants.{Length, Layout, Ranges}
use Rattle.definition.specs.declared.answers.RunRefusal.{RunRefusal}
use Rattle.definition.specs.declared.answers.RunRefusal.TheVariants.{TextLength, NameLength, Classes, IllFormed, UnsoundState, LineZero}

pub class_refused : (r : ClassRefusal) → class_number r ≡ 0 → ⊥
class_refused Length e = omega arith
class_refused Layout e = omega arith
class_refused Ranges e = omega arith

pub run_refused : (r : RunRefusal) → run_number r ≡ 0 → ⊥
run_refused TextLength e = omega arith
run_refused NameLength e = omega arith
run_refused (Classes r) e = class_refused r e
run_refused (IllFormed offset) e = omega arith
run_refused UnsoundState e = omega arith
run_refused LineZero e = omega arith
