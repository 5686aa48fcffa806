-- Laws of the test by first byte and length: every keyword passes, and which bytes of ASCII begin one. Rests on nothing but the definition.
use Prim.Native.Nat.{ℕ, ◌≤◌, ◌<◌}
use mathlib.Core.Path.{◌≡◌, refl, sym}
use mathlib.Core.Bool.{Bool, true, false, ◌&&◌}
use mathlib.Core.List.{List, [], ◌∷◌, map}
use native.Mathlib.Omega.{arith}
use lib.Dec.{eqb}
use lib.ListN.{length, get_or}
use borrow.Author.Tests.{le-ltb, lt-leb, ne_eqb}
use Rattle.definition.specs.Basics.{Bytes, codes, mem_cp}
use Rattle.definition.specs.Utf8.{encode, encode_all}
use Rattle.definition.specs.Tables.{cps, keywords}
use Rattle.lemmas.proofs.Cases.{by_test, never}
use Rattle.lemmas.proofs.Members.{Rest, no_key, some_keys}
use Rattle.table_words.specs.Words.{spelled}
use Rattle.table_keywords.specs.Lengths.{bit, lengths, with_bit, may_be_keyword}

-- ---- the test

-- each word of a list passes a test
abbrev pub all_pass : (Bytes → Bool) → List Bytes → Bool
all_pass t [] = true
all_pass t (w ∷ ws) = t w && all_pass t ws

-- Every keyword passes.
pub keywords_pass : all_pass may_be_keyword (spelled keywords) ≡ true
unfolding may_be_keyword lengths with_bit keywords cps encode_all encode
keywords_pass = refl

-- The empty lexeme fails.
pub empty_fails : (id : Bytes) → length id ≡ 0 → false ≡ may_be_keyword id
unfolding may_be_keyword lengths keywords cps encode_all encode
empty_fails [] e = refl
empty_fails (x ∷ id) e = absurd (omega arith)

-- A lexeme of at most 31 bytes that begins with a byte of ASCII goes by its length.
pub by_length : (id : Bytes) {m : ℕ} → length id ≤ 31 → get_or id 0 0 < 128 → m ≡ lengths (get_or id 0 0) (spelled keywords) → bit m (length id) ≡ may_be_keyword id
unfolding may_be_keyword
by_length id h l e = rw (le-ltb 31 (length id) h, lt-leb 128 (get_or id 0 0) l, e)

-- ---- the bytes that begin a keyword

-- A byte that begins no word of a list has no lengths.
no_lengths : (b : ℕ) (ws : List Bytes) → mem_cp b (map (λ w. get_or w 0 0) ws) ≡ false → lengths b ws ≡ 0
unfolding mem_cp lengths
no_lengths b [] n = refl
no_lengths b (w ∷ ws) n =
    by_test (λ (t : Bool). t ≡ false → lengths b (w ∷ ws) ≡ 0) (eqb (get_or w 0 0) b)
    (λ _ r. never (sym r))
    (λ q r. rw (q, lengths) (no_lengths b ws r))
    n

-- the bytes of ASCII that begin a keyword, the last one first
abbrev beginnings : List ℕ
beginnings = codes "wvutsrqponmlifedcba_"

-- A byte of ASCII for which a `match` has no arm begins none.
pub no_first : (b : ℕ) → b < 128 → Rest (map (λ k. k ∷ []) beginnings) b → 0 ≡ lengths b (spelled keywords)
unfolding mem_cp keywords cps encode_all encode
no_first b h n =
    let none : mem_cp b beginnings ≡ false = no_key (map (λ k. k ∷ []) beginnings) b refl n in
    let all : mem_cp b (206 ∷ 207 ∷ beginnings) ≡ false = rw (ne_eqb 206 b (omega arith), mem_cp, ne_eqb 207 b (omega arith), mem_cp) none in
    sym (no_lengths b (spelled keywords) (some_keys (map (λ w. get_or w 0 0) (spelled keywords)) (206 ∷ 207 ∷ beginnings) b refl all))
