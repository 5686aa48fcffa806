-- What is computed over the definition's table: which bytes operator tokens begin with.
use Rattle.std.specs.Prelude.{if◌then◌else◌}
use Prim.Native.Nat.{ℕ, ◌<◌}
use mathlib.Core.Path.{◌≡◌, refl}
use mathlib.Core.Bool.{false}
use mathlib.Core.List.{List, [], ◌∷◌, map}
use Rattle.definition.specs.Basics.{codes, mem_cp}
use Rattle.definition.specs.Utf8.{encode, encode_all}
use Rattle.definition.specs.Chars.{count_up}
use Rattle.definition.specs.Tables.{cps, op_tokens, words_of}
use Rattle.lemmas.proofs.Members.{keys_of}
use Rattle.table_words.specs.Rows.{Row, numbered, only_rows, tokens_at}
use Rattle.table_words.proofs.RowLaws.{is_empty}
use Rattle.table_words.proofs.TableLaws.{same_each}

-- None of them is empty.
pub tokens_full : only_rows (λ (r : Row). is_empty r.1) (numbered 0 (words_of op_tokens)) ≡ []
unfolding op_tokens cps encode_all encode
tokens_full = refl

-- the bytes that they begin with, as the arms of the code's `match`, from the last to the first
abbrev pub first_bytes : List (List ℕ)
first_bytes = map (λ (b : ℕ). b ∷ []) (codes "~}|{ur]\\[?=<;:/.-,)(&%$#!")

-- Where a byte is none of these no operator token may stand: computed for each byte,
all_others : map (λ b. if mem_cp b (keys_of first_bytes) then [] else tokens_at b) (count_up 0 256) ≡ map (λ b. []) (count_up 0 256)
unfolding op_tokens cps encode_all encode count_up mem_cp
all_others = refl

-- and so of each.
pub tokens_none : (b : ℕ) → b < 256 → mem_cp b (keys_of first_bytes) ≡ false → tokens_at b ≡ []
tokens_none b h n =
    let all = same_each (λ b. if mem_cp b (keys_of first_bytes) then [] else tokens_at b) (λ b. []) 256 [] all_others b h in
    rw n at all
