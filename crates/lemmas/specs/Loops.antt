-- What a turn of a loop leads to.
use Rattle.definition.specs.Basics.{Turn, again, done}

-- P holds of what a turn calls itself with, Q of what it answers
abbrev pub Leads : {A R : Type 0} → (A → Type 0) → (R → Type 0) → Turn A R → Type 0
Leads P Q (again b) = P b
Leads P Q (done r) = Q r
