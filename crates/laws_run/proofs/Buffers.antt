-- What is written for some items: how long it is, what one item more adds, and that the items are found in it again. Rests on the laws of
-- parts of lists.
use Prim.Native.Nat.{ℕ, ◌+◌, ◌*◌}
use mathlib.Core.Path.{◌≡◌, refl, sym, ap, ap₂, ◌∙◌}
use mathlib.Core.List.{List, [], ◌∷◌, ◌++◌, map, append_assoc, append-nil}
use native.Mathlib.Omega.{arith}
use native.Mathlib.Nat.{add-zero, zero-add}
use lib.ListN.{length, take, drop, length-append}
use lib.Seq.{take-append_seam, drop-append_seam, drop-drop, take_at, drop_at}
use Rattle.definition.specs.Basics.{Bytes}
use Rattle.definition.specs.Item.{Step, record_size, extra_words, words}
use Rattle.definition.specs.declared.Item.{Item}
use Rattle.definition.specs.declared.Extra.{Extra}
use Rattle.definition.specs.declared.Extra.TheVariants.{NoExtra, CharLit, Blob, LexError, Comment}
use Rattle.lemmas.specs.Over.{over}
use Rattle.lemmas.proofs.Each.{Each, none_left, ◌⨾◌}
use Rattle.definition.specs.Items.{Told, without_6, told, records_of, payloads_of}
use Rattle.laws_run.specs.Split.{payload_size, item_in, items_in}

-- ---- sizes

-- a record is 18 numbers
pub words_size : (t : Item) (used : ℕ) → length (words t used) ≡ record_size
words_size t used = omega (arith, go t.extra, length-append (extra_words t.extra) (t.from ∷ t.to ∷ []))
  where
    go : (x : Extra) → length (extra_words x) ≡ 7
    go NoExtra = refl
    go (CharLit c) = refl
    go (Blob n p q) = refl
    go (LexError n p q) = refl
    go (Comment b) = refl

-- so are those of some items, each
pub records_size : (used : ℕ) (ts : List Step) → length (records_of used ts) ≡ record_size * length ts
unfolding records_of
records_size used [] = refl
records_size used (t ∷ ts) =
    let rest = records_of (used + length t.payload) ts in
    omega (arith, length-append (words t.item used) rest, words_size t.item used, records_size (used + length t.payload) ts)

-- ---- some items and then others

-- payloads
pub payloads_append : (ts us : List Step) → payloads_of (ts ++ us) ≡ payloads_of ts ++ payloads_of us
unfolding payloads_of
payloads_append [] us = refl
payloads_append (t ∷ ts) us =
    ap (λ (l : Bytes). t.payload ++ l) (payloads_append ts us) ∙ sym (append_assoc t.payload (payloads_of ts) (payloads_of us))

-- records: the others begin after the first payloads
pub records_append : (used : ℕ) (ts us : List Step) → records_of used (ts ++ us) ≡ records_of used ts ++ records_of (used + length (payloads_of ts)) us
unfolding records_of payloads_of
records_append used [] us = ap (λ (n : ℕ). records_of n us) (sym (add-zero used))
records_append used (t ∷ ts) us =
    let n = used + length t.payload in
    let e : n + length (payloads_of ts) ≡ used + length (t.payload ++ payloads_of ts) = omega (arith, length-append t.payload (payloads_of ts)) in
    ap (λ (l : List ℕ). words t.item used ++ l) (records_append n ts us ∙ ap (λ (k : ℕ). records_of n ts ++ records_of k us) e)
    ∙ sym (append_assoc (words t.item used) (records_of n ts) (records_of (used + length (t.payload ++ payloads_of ts)) us))

-- one item more
pub payloads_snoc : (ts : List Step) (t : Step) → payloads_of (ts ++ (t ∷ [])) ≡ payloads_of ts ++ t.payload
unfolding payloads_of
payloads_snoc ts t = payloads_append ts (t ∷ []) ∙ ap (λ (l : Bytes). payloads_of ts ++ l) (append-nil t.payload)

-- its record
pub records_snoc : (used : ℕ) (ts : List Step) (t : Step) → records_of used (ts ++ (t ∷ [])) ≡ records_of used ts ++ words t.item (used + length (payloads_of ts))
unfolding records_of
records_snoc used ts t =
    let n = used + length (payloads_of ts) in
    records_append used ts (t ∷ []) ∙ ap (λ (l : List ℕ). records_of used ts ++ l) (append-nil (words t.item n))

-- a part of a buffer that is written over
over_part : (a b c l : List ℕ) → take (length b) (drop (length a) (over (a ++ (b ++ c)) l)) ≡ b
unfolding over
over_part a b c l =
    let z = drop (length (a ++ (b ++ c))) l in
    ap (λ (m : List ℕ). take (length b) (drop (length a) m)) (append_assoc a (b ++ c) z)
    ∙ ap (take (length b)) (drop-append_seam a ((b ++ c) ++ z) ∙ append_assoc b c z)
    ∙ take-append_seam b (c ++ z)

-- what is after
pub over_rest : (vs l : List ℕ) → drop (length vs) (over vs l) ≡ drop (length vs) l
unfolding over
over_rest vs l = drop-append_seam vs (drop (length vs) l)

-- what is after n records
pub records_rest : (ts : List Step) (n : ℕ) (rs : List ℕ) → n ≡ length ts → drop (record_size * n) (over (records_of 0 ts) rs) ≡ drop (record_size * n) rs
records_rest ts n rs e =
    let m : record_size * n ≡ length (records_of 0 ts) = omega (arith, records_size 0 ts) in
    rw m (over_rest (records_of 0 ts) rs)

-- one item among others
module _ (before : List Step) (t : Step) (after : List Step) where
  -- its record
  pub record_there : (rs : List ℕ) → take record_size (drop (record_size * length before) (over (records_of 0 (before ++ (t ∷ after))) rs)) ≡ words t.item (length (payloads_of before))
  unfolding records_of
  record_there rs =
      let u = length (payloads_of before) in
      let w = words t.item u in
      let e : records_of 0 (before ++ (t ∷ after)) ≡ records_of 0 before ++ (w ++ records_of (u + length t.payload) after) =
      rw zero-add at (records_append 0 before (t ∷ after))
      in
      ap (λ (l : List ℕ). take record_size (drop (record_size * length before) (over l rs))) e
      ∙ ap₂ (λ (n k : ℕ). take n (drop k (over (records_of 0 before ++ (w ++ records_of (u + length t.payload) after)) rs)))
      (sym (words_size t.item u)) (sym (records_size 0 before))
      ∙ over_part (records_of 0 before) w (records_of (u + length t.payload) after) rs

  -- its payload
  pub payload_there : (ps : Bytes) → take (length t.payload) (drop (length (payloads_of before)) (over (payloads_of (before ++ (t ∷ after))) ps)) ≡ t.payload
  unfolding payloads_of
  payload_there ps =
      ap (λ (l : Bytes). take (length t.payload) (drop (length (payloads_of before)) (over l ps))) (payloads_append before (t ∷ after))
      ∙ over_part (payloads_of before) t.payload (payloads_of after) ps

-- ---- the items are found again

-- the record of a step says how long its payload is
pub record Measured (t : Step) : Type 0 where
  pub size : (used : ℕ) → payload_size (words t.item used) ≡ length t.payload

-- an item in its record
item_found : (t : Step) (used : ℕ) (ps z : Bytes) → Measured t → drop used ps ≡ t.payload ++ z → item_in ps (words t.item used) ≡ told t
unfolding item_in
item_found t used ps z m e =
    ap (λ (p : Bytes). (without_6 (words t.item 0), p)) (ap₂ (λ (n : ℕ) (l : Bytes). take n l) (m.size used) e ∙ take-append_seam t.payload z)

-- Some items in their records, where their payloads stand from byte `used` on.
pub items_found : (used : ℕ) (ts : List Step) (rs z : List ℕ) (ps y : Bytes) → Each Measured ts → rs ≡ records_of used ts ++ z → drop used ps ≡ payloads_of ts ++ y
    → items_in (length ts) rs ps ≡ map told ts
unfolding items_in records_of payloads_of
items_found used [] rs z ps y none_left q e = refl
items_found used (t ∷ ts) rs z ps y (m ⨾ ms) q e =
    let w = words t.item used in
    let n = used + length t.payload in
    let q' : rs ≡ w ++ (records_of n ts ++ z) = q ∙ append_assoc w (records_of n ts) z in
    let e' : drop used ps ≡ t.payload ++ (payloads_of ts ++ y) = e ∙ append_assoc t.payload (payloads_of ts) y in
    let first : take record_size rs ≡ w = ap (take record_size) q' ∙ take_at w (records_of n ts ++ z) record_size (words_size t.item used) in
    let others : drop record_size rs ≡ records_of n ts ++ z = ap (drop record_size) q' ∙ drop_at w (records_of n ts ++ z) record_size (words_size t.item used) in
    let later : drop n ps ≡ payloads_of ts ++ y =
    sym (drop-drop (length t.payload) used ps) ∙ ap (drop (length t.payload)) e' ∙ drop-append_seam t.payload (payloads_of ts ++ y)
    in
    ap₂ (λ (x : Told) (l : List Told). x ∷ l) (ap (item_in ps) first ∙ item_found t used ps (payloads_of ts ++ y) m e')
    (items_found n ts (drop record_size rs) z ps y ms others later)
