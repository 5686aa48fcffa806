-- The laws of the longest match, for every layer above to cite: demand 3 of document 01 at one position, and the longest end of each place.
-- They hold for any class file: nothing is asked of it. Rests on the files beside this one, which prove them: a language over offsets
-- (Language), right answers (Ends), first characters (Starts), the shapes of patterns (Shapes, Literals, Backticks, Families), numbers
-- (Continues, Integers, Floats, BadNumbers, Numbers), the choice among ends (Best), and the 50 places (Places, Choosing).
use Rattle.std.specs.Prelude.{Option, Some, None}
use Prim.Native.Nat.{ℕ, ◌≤◌, ◌<◌}
use mathlib.Core.Path.{◌≡◌, refl, sym, ◌∙◌}
use native.Mathlib.Omega.{arith}
use lib.ListN.{length}
use Rattle.definition.specs.Basics.{Bytes, codes}
use Rattle.definition.specs.Matchers.{match_bad_number}
use Rattle.definition.specs.Select.{select}
use Rattle.definition.specs.Patterns.{pattern}
use Rattle.definition.specs.Longest.{Permitted, Longest}
use Rattle.laws_longest.specs.LongestEnd.{longest_end, LongestEnd}
use Rattle.laws_longest.proofs.Language.{At, at_permits, permits_at}
use Rattle.laws_longest.proofs.Ends.{Right, some_end}
use Rattle.laws_longest.proofs.Numbers.{numbers, twelve_fits, twelve_chosen}
use Rattle.laws_longest.proofs.Choosing.{pattern_ahead, end_right, choice_longest}

-- At every offset of a text `select` takes the longest part that any place permits, and of those the one of the earliest place; and it
-- takes none exactly where no place permits a part of one byte or more. It is so for any bytes and any class file, and so at every
-- boundary of a legal text, where a run asks it.
pub select_longest : (s f : Bytes) (i : ℕ) → i ≤ length s → Longest s f i (select s f i)
select_longest s f i h = choice_longest s f i (numbers s f i) h

-- The longest end of each place is permitted by its pattern, every end that its pattern permits is at most it, and it is none exactly
-- where the pattern permits nothing of a byte or more. A number that is no place permits nothing.
pub place_longest : (s f : Bytes) (k i : ℕ) → i ≤ length s → LongestEnd s f k i (longest_end s f k i)
place_longest s f k i h = record {
  fits = λ e q. let a = r.fits e q in (pattern_ahead s f k i e a, at_permits s (pattern f k) i e h a);
  longest = λ e p. r.top e (permits_at s (pattern f k) i e p);
  nothing = (λ n e l p. some_end (sym n ∙ (r.top e (permits_at s (pattern f k) i e p)).1), none (longest_end s f k i) r);
}
  where
    r : Right (At s (pattern f k) i) (longest_end s f k i)
    r = end_right s f i (numbers s f i) k

    none : (m : Option ℕ) → Right (At s (pattern f k) i) m → ((e : ℕ) → i < e → Permitted s f k i e → ⊥) → m ≡ None
    none None _ _ = refl
    none (Some e) t g = let a = t.fits e refl in absurd (g e (pattern_ahead s f k i e a) (at_permits s (pattern f k) i e h a))

-- The tie of `12`: place 27 permits it whole, its matcher finds nothing, and `select` takes the integer, whose place is the earlier.
pub twelve : (f : Bytes)
    → Permitted (codes "12") f 27 0 2
    × (match_bad_number (codes "12") f 0 ≡ None)
    × (select (codes "12") f 0 ≡ record { place = 16; end = 2; word = 0 })
twelve f = (at_permits (codes "12") (pattern f 27) 0 2 (omega arith) (twelve_fits f), (twelve_chosen f).0, (twelve_chosen f).1)
