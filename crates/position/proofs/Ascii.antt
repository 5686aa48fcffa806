-- Over bytes that are all ASCII the count of characters is that of the bytes, so that a column goes on from a known one by as much as
-- the offset does; and the loop that looks whether bytes are ASCII by their bits together. Rests on the laws of the count, of columns
-- and of bits.
use Prim.Native.Nat.{ℕ, zero, suc, ◌+◌, ◌-◌, ◌≤◌, ◌<◌}
use native.Mathlib.Omega.{arith}
use mathlib.Core.Path.{◌≡◌, refl, sym, ◌∙◌}
use lib.ListN.{get_or}
use lib.Bits.{bit_or, and_le_l, and_le_r, or_add_and}
use borrow.Author.Count.{below_more}
use Rattle.definition.specs.Basics.{Bytes}
use Rattle.definition.specs.Position.{Weight, one_each, weight_at, count_chars}
use Rattle.definition.specs.declared.State.{State}
use Rattle.position.specs.declared.Cache.{Cache}
use Rattle.position.specs.Columns.{Asked, column_at}
use Rattle.position.proofs.Counting.{unit_is, below_tails, from_known, known_again}
use Rattle.position.specs.declared.columns.AsciiRun.{AsciiRun}
use Rattle.position.specs.AsciiRuns.{Ascii, Plain, Covers}

-- ---- columns

-- each byte counts one
ascii_count : (s : Bytes) (i n : ℕ) → Ascii s i (i + n) → count_chars one_each s i n ≡ n
unfolding count_chars
ascii_count s i zero h = refl
ascii_count s i (suc n) h =
    let b : get_or s i 0 < 128 = h i (omega arith) (omega arith) in
    let first : weight_at one_each s i ≡ 1 = unit_is s i ∙ sym (below_tails (get_or s i 0) b) in
    let rest : count_chars one_each s (suc i) n ≡ n = ascii_count s (suc i) n (λ k p q. h k (omega arith) (omega arith)) in
    omega arith

-- the column of an offset after the known one, with nothing but ASCII between
ascii_column : (s : Bytes) (st : State) (known : Cache) (p : AsciiRun) (i : ℕ) → Plain s p → p.from ≤ known.off → known.off ≤ i → i ≤ p.to
    → Asked one_each s st known i → ◌≡◌ {A = Cache} (record { off = i; col = known.col + (i - known.off) }) (column_at one_each s st i)
ascii_column s st known p i h f b t a =
    from_known one_each s st known i (i - known.off) a.cached b
    (sym (ascii_count s known.off (i - known.off) (λ k x y. h k (omega arith) (omega arith))))

-- both ends of a token that a run of ASCII covers
module _ {s : Bytes} {st : State} {known : Cache} {p : AsciiRun} {from to : ℕ} (h : Plain s p) (v : Covers p known from to) where
  pub start_covered : Asked one_each s st known from → ◌≡◌ {A = Cache} (record { off = from; col = known.col + (from - known.off) }) (column_at one_each s st from)
  start_covered = ascii_column s st known p from h v.starts v.after (omega (arith, v.order, v.ends))

  pub end_covered : Asked one_each s st known to → ◌≡◌ {A = Cache} (record { off = to; col = known.col + (to - known.off) }) (column_at one_each s st to)
  end_covered = ascii_column s st known p to h v.starts (omega (arith, v.after, v.order)) v.ends

-- where one column was asked for, another may be asked from there
pub asked_on : {w : Weight} {s : Bytes} {st : State} {known : Cache} {i j : ℕ} (c : Cache) → c ≡ column_at w s st i
    → Asked w s st known i → Asked w s st known j → Asked w s st c j
asked_on {w} {s} {st} {known} {i} {j} c e a b = record {
  short = b.short;
  margin = b.margin;
  cached = rw e (known_again w s st i a.from);
  from = b.from;
  to = b.to;
}

-- ---- the loop: where the bits of the k bytes from i on are together below 128, all those bytes are ASCII

-- a byte is at most its bits together with others
or_left : (a b : ℕ) → a ≤ bit_or a b
or_left a b = omega (arith, or_add_and a b, and_le_r a b)

or_right : (a b : ℕ) → b ≤ bit_or a b
or_right a b = omega (arith, or_add_and a b, and_le_l a b)

pub record Joined (s : Bytes) (i bits k : ℕ) : Type 0 where
  pub within : k ≤ 64
  pub ascii : bits < 128 → Ascii s i (i + k)

module _ (s : Bytes) (i : ℕ) where
  pub joined_goes_on : (bits k : ℕ) → k < 64 → Joined s i bits k → Joined s i (bit_or bits (get_or s (i + k) 0)) (k + 1)
  joined_goes_on bits k l h =
      let before : bits ≤ bit_or bits (get_or s (i + k) 0) = or_left bits (get_or s (i + k) 0) in
      let here : get_or s (i + k) 0 ≤ bit_or bits (get_or s (i + k) 0) = or_right bits (get_or s (i + k) 0) in
      record {
        within = omega arith;
        ascii = λ z j p q. below_more (λ (n : ℕ). i ≤ n → get_or s n 0 < 128) (i + k) (λ n y x. h.ascii (omega arith) n x y) (λ _. omega arith) j (omega arith) p;
      }
