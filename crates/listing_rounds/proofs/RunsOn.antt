-- Runs of either kind one after another: each that isn't the last writes an item, and leaves fewer to come. Rests on what one run has done
-- (EitherRuns).
use Rattle.std.specs.Prelude.{Result, Ok, Err}
use Prim.Native.Nat.{ℕ, ◌+◌, ◌≤◌}
use mathlib.Core.Path.{◌≡◌, refl, sym, ap, subst, ◌∙◌}
use mathlib.Core.List.{List}
use native.Mathlib.Omega.{arith}
use lib.ListN.{length, length-append}
use Rattle.definition.specs.Answers.{RunAnswer}
use Rattle.definition.specs.Basics.{Bytes}
use Rattle.laws_run.specs.Left.{left}
use Rattle.either_run.specs.Either.{first_of, EitherOutcome, either_run, either_refusal, either_items}
use Rattle.either_run.specs.declared.Saved.{Saved}
use Rattle.listing_lines.specs.Writing.{Room}
use Rattle.listing_rounds.specs.Rounds.{Begun, Lent, Refuses, Lists, Told, Rounded, Ends}
use Rattle.listing_rounds.specs.declared.rounds.Round.{Round}
use Rattle.listing_rounds.proofs.EitherRuns.{Roomy, Did, either_did, refusal_is}

-- an answer without a refusal
pub run_taken : (s name f : Bytes) (from : Saved) (rs : List ℕ) (ps : Bytes) → (either_run s name f from rs ps).0.refusal ≡ 0 → either_refusal s name f from ≡ 0
run_taken s name f from rs ps z = sym (refusal_is s name f rs ps from) ∙ z

-- what a run did that answers so
run_did : (s name f : Bytes) (from : Saved) (rs : List ℕ) (ps : Bytes) → (either_run s name f from rs ps).0.refusal ≡ 0
    → Did s name f from rs ps (either_run s name f from rs ps)
run_did s name f from rs ps z = either_did s name f rs ps from (run_taken s name f from rs ps z)

-- ---- one round

-- an answer's numbers are those of its outcome
pub said_is : {o : EitherOutcome} {r said : RunAnswer Saved} {rs : List ℕ} {ps : Bytes} → r ≡ said → ◌≡◌ {A = EitherOutcome} (said, rs, ps) o
    → ◌≡◌ {A = EitherOutcome} (r, rs, ps) o
said_is e q = rw e q

-- what is told of a run's answer and records is told of its outcome
pub round_is : (o : EitherOutcome) (before : Bytes) (x : Result Round ℕ) (after : Bytes) {r : RunAnswer Saved} {rs : List ℕ} {ps : Bytes}
    → ◌≡◌ {A = EitherOutcome} (r, rs, ps) o → Told r rs before x after → Rounded o before x after
round_is o before x after e t = subst (λ (y : EitherOutcome). Rounded y before x after) e t

-- there is room for the lines of a run's items
pub round_room : (s name f : Bytes) (from : Saved) (rs : List ℕ) (ps : Bytes) {r : RunAnswer Saved} {rs' : List ℕ} {ps' out : Bytes}
    → ◌≡◌ {A = EitherOutcome} (r, rs', ps') (either_run s name f from rs ps) → r.refusal ≡ 0 → Lent rs ps out → length rs' ≡ length rs → Room rs' r.count out
round_room s name f from rs ps e z l k =
    let a = ap (λ (x : EitherOutcome). x.0) e in
    let d = run_did s name f from rs ps (ap (λ (x : RunAnswer Saved). x.refusal) (sym a) ∙ z) in
    let c = ap (λ (x : RunAnswer Saved). x.count) a ∙ d.count in
    record { records = omega (arith, d.fits, c, k); lines = omega (arith, d.fits, c, l.records, l.lines) }

-- ---- the rounds

-- where the listing stands that began at `from₀`: the buffers have the lengths that they were lent with; the items listed with those that
-- are left are all, and not more than the bytes of the text and one; and if it isn't refused here it wasn't at the start
pub record Going (s name f : Bytes) (from₀ : Saved) (rs₀ : List ℕ) (ps₀ out₀ : Bytes) (rs : List ℕ) (ps out : Bytes) (from : Saved) (listed : ℕ) : Type 0 where
  pub lent : Lent rs ps out
  pub records : length rs ≡ length rs₀
  pub payload : length ps ≡ length ps₀
  pub lines : length out ≡ length out₀
  pub short : length s ≤ 60000
  pub few : listed + left s (first_of from) ≤ 60001
  pub count : listed + length (either_items s name f from) ≡ length (either_items s name f from₀)
  pub refuses : either_refusal s name f from ≡ either_refusal s name f from₀

pub going_starts : (s name f : Bytes) (rs : List ℕ) (ps out : Bytes) (from : Saved) → Begun s from → Lent rs ps out
    → Going s name f from rs ps out rs ps out from 0
going_starts s name f rs ps out from b l = record {
  lent = l;
  records = refl;
  payload = refl;
  lines = refl;
  short = b.short;
  few = rw b.is (omega (arith, b.short));
  count = omega arith;
  refuses = refl;
}

module _ {s name f : Bytes} {from₀ : Saved} {rs₀ : List ℕ} {ps₀ out₀ : Bytes} {rs : List ℕ} {ps out : Bytes} {from : Saved} {listed : ℕ}
    (g : Going s name f from₀ rs₀ ps₀ out₀ rs ps out from listed) where
  abbrev o : EitherOutcome
  o = either_run s name f from rs ps

  -- a round that is refused ends the listing so
  pub ends_refused : {number : ℕ} {out' : Bytes} → Refuses o.0 out number out' → Ends s name f from₀ (Err number)
  ends_refused r = (sym r.refusal ∙ refusal_is s name f rs ps from ∙ g.refuses, r.some)

  module _ {out' : Bytes} {next : Saved} {bytes items stop : ℕ} (l : Lists o.0 o.1 out bytes items stop next out') where
    d : Did s name f from rs ps o
    d = run_did s name f from rs ps l.taken

    -- so many items fewer are left
    pub round_fewer : items + left s (first_of next) ≤ left s (first_of from)
    round_fewer = omega (arith, d.fewer, d.count, l.all_items, ap (λ (b : Saved). left s (first_of b)) l.state)

    -- and one at least is written where the run isn't the last
    pub round_wrote : length name ≤ 50 → (stop ≡ 0 → ⊥) → 1 ≤ items
    round_wrote named n =
        let roomy : Roomy s name rs ps = record { records = omega (arith, g.lent.records); payload = omega (arith, g.short, g.lent.payload); named = named } in
        omega (arith, d.writes roomy (λ q. n (l.reason ∙ q)), d.count, l.all_items)

    -- their count is small
    pub round_few : listed + items ≤ 60001
    round_few = omega (arith, round_fewer, g.few)

    -- it isn't refused here, and so it wasn't
    not_refused : either_refusal s name f from₀ ≡ 0
    not_refused = sym g.refuses ∙ run_taken s name f from rs ps l.taken

    -- all items are counted
    round_counts : (listed + items) + length (either_items s name f next) ≡ length (either_items s name f from₀)
    round_counts =
        let all = ap length d.items ∙ length-append d.ts (either_items s name f o.0.state) in
        omega (arith, all, d.count, l.all_items, ap (λ (b : Saved). length (either_items s name f b)) l.state, g.count)

    -- the last round ends the listing
    pub ends_all : stop ≡ 0 → Ends s name f from₀ (Ok (listed + items))
    ends_all q =
        let e = ap length (d.ended (sym l.reason ∙ q)) in
        (not_refused, omega (arith, round_counts, e, ap (λ (b : Saved). length (either_items s name f b)) l.state))

    pub going_on : {rs' : List ℕ} {ps' : Bytes} → length rs' ≡ length rs → length ps' ≡ length ps → length out' ≡ length out
        → Going s name f from₀ rs₀ ps₀ out₀ rs' ps' out' next (listed + items)
    going_on p q r = record {
      lent = record { records = p ∙ g.lent.records; payload = q ∙ g.lent.payload; lines = r ∙ g.lent.lines };
      records = p ∙ g.records;
      payload = q ∙ g.payload;
      lines = r ∙ g.lines;
      short = g.short;
      few = omega (arith, round_fewer, g.few);
      count = round_counts;
      refuses = ap (either_refusal s name f) l.state ∙ d.taken_again ∙ sym not_refused;
    }
