-- What the other files share: bytes, a loop that ends, and characters written as they look.
--
-- How these files are read:
--   f : A → B → C          f takes an A and a B and gives a C; `f a b` calls it; `λ x. e` is a function without a name
--   f a b = e              what f gives; where several such lines stand, the first whose patterns fit
--   abbrev, unfoldable     both begin a definition, and say only when the checker writes it out: always, or where it is asked to
--   pub                    other files may name it
--   elim x [ p ↦ e | q ↦ g ]   the arm whose pattern fits x; only that arm is computed
--   if b then x else y     the library's choice by a test; both arms are computed, so a recursive call stands in an `elim` and not here
--   let x = e in g         g, in which x stands for e
--   (a, b, c), A × B × C   a tuple and its type; `.0`, `.1`, `.2` are its parts, and `.line` the part of that name of a struct
--   a ∷ l, [], l ++ m      a list: its first element and the others, none, two one after the other
--   match_ident            a name, the source's own; `a - b` is the difference of two numbers, 0 at least
--   a ≡ b                  a and b are equal, which is a type: what has it is a proof
use Rattle.std.specs.Prelude.{ℕ, zero, suc, Bool, true, false, ◌&&◌, List, [], ◌∷◌, leb, eqb, length}
use Prim.Native.Char.{Char, code}
use Prim.Native.String.{String, [] as no_chars, ◌∷◌ as ◌then_chars◌}

-- a text, a class file, a payload: numbers below 256
abbrev pub Bytes : Type 0
Bytes = List ℕ

-- ---- loops: a recursive function of the source is what one call of it does

-- one call of it: it calls itself with other arguments, or it answers
pub data Turn (A R : Type 0) : Type 0 where
  again : A → Turn A R
  done : R → Turn A R

-- at most n calls. `out` would be the answer past them: the crate `laws_run` (proofs/Fuel.antt) shows for each use that there are never so many
unfoldable pub loop : {A R : Type 0} → (A → Turn A R) → (A → R) → ℕ → A → R
loop turn out zero a = out a
loop turn out (suc n) a = elim (turn a) [ again b ↦ loop turn out n b | done r ↦ r ]

-- a loop over a text that moves on by a byte or more at each turn ends within so many turns
abbrev pub fuel : Bytes → ℕ
fuel s = suc (length s)

-- ---- characters

-- the source's `ch`: the code point of a character as it is written
abbrev pub ch : Char → ℕ
ch c = code c

-- the code points of a text as it is written
abbrev pub codes : String → List ℕ
codes no_chars = []
codes (c then_chars s) = code c ∷ codes s

-- the source's `mem_cp`
unfoldable pub mem_cp : ℕ → List ℕ → Bool
mem_cp c [] = false
mem_cp c (d ∷ l) = elim (eqb d c) [ true ↦ true | false ↦ mem_cp c l ]

-- c is one of the characters from a to b
abbrev pub between : ℕ → ℕ → ℕ → Bool
between a b c = leb a c && leb c b

-- two lists are the same
unfoldable pub same : List ℕ → List ℕ → Bool
same [] [] = true
same [] (y ∷ ys) = false
same (x ∷ xs) [] = false
same (x ∷ xs) (y ∷ ys) = elim (eqb x y) [ true ↦ same xs ys | false ↦ false ]
