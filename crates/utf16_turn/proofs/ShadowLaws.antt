-- A turn of a run looks at its records' buffer only for its length: with other records of the same length it stops alike, and writes the
-- same item. So the second run, which counts the positions in its records again, goes as the first does. Rests on nothing but the
-- definition.
use Prim.Native.Nat.{ℕ, ◌-◌, ◌*◌, ◌≤◌}
use mathlib.Core.Path.{◌≡◌, sym, ap, ◌∙◌}
use mathlib.Core.List.{List}
use lib.Dec.{ltb, eqb}
use lib.ListN.{length}
use native.Mathlib.Omega.{arith}
use borrow.Author.Tests.{eqb-false, ltb-false}
use Rattle.definition.specs.Answers.{RunAnswer}
use Rattle.definition.specs.Basics.{Bytes, Turn, again, done}
use Rattle.definition.specs.Item.{Step, record_size}
use Rattle.definition.specs.Token.{step}
use Rattle.definition.specs.Run.{Outcome, Writing, stopped, written, run_turn}
use Rattle.definition.specs.declared.State.{State}
use Rattle.lemmas.proofs.Cases.{by_test}

-- what a turn answers, or where it goes on; `else` is for the other case
abbrev outcome_of : Outcome → Turn Writing Outcome → Outcome
outcome_of else (again b) = else
outcome_of else (done o) = o

abbrev writing_of : Writing → Turn Writing Outcome → Writing
writing_of else (again b) = b
writing_of else (done o) = else

-- it doesn't do both
goes_no_further : {X : Type 0} {o : Outcome} {b : Writing} → ◌≡◌ {A = Turn Writing Outcome} (done o) (again b) → X
goes_no_further e = let z : ◌≡◌ {A = ℕ} 0 1 = cc in absurd (omega arith)

module _ (s name f : Bytes) (st : State) (count used : ℕ) (ps : Bytes) where
  -- a run that has these records
  abbrev with_records : List ℕ → Writing
  with_records rs = record { state = st; records = rs; payload = ps; count = count; used = used }

  abbrev t : Step
  t = step s name f st

  module _ (rs rs' : List ℕ) (same : length rs' ≡ length rs) where
    abbrev room : List ℕ → ℕ
    room l = length l - record_size * count

    same_room : room rs' ≡ room rs
    same_room = ap (λ (n : ℕ). n - record_size * count) same

    -- it stops, and leaves both buffers
    pub record StopsAlike (o : Outcome) : Type 0 where
      pub records : o.1 ≡ rs
      pub payload : o.2 ≡ ps
      pub alike : run_turn s name f (with_records rs') ≡ done (o.0, rs', ps)

    stops_alike : {k : ℕ} {o : Outcome} → run_turn s name f (with_records rs') ≡ done (stopped k (with_records rs'))
        → ◌≡◌ {A = Turn Writing Outcome} (done (stopped k (with_records rs))) (done o) → StopsAlike o
    stops_alike {k} {o} q e =
        let is : stopped k (with_records rs) ≡ o = ap (outcome_of o) e in
        record {
          records = sym (ap (λ (x : Outcome). x.1) is);
          payload = sym (ap (λ (x : Outcome). x.2) is);
          alike = q ∙ ap (λ (r : RunAnswer State). done (r, rs', ps)) (ap (λ (x : Outcome). x.0) is);
        }

    pub shadow_stops : (o : Outcome) → run_turn s name f (with_records rs) ≡ done o → StopsAlike o
    unfolding run_turn
    shadow_stops o =
        by_test P (eqb st.mode 2) (λ m e. stops_alike (rw (run_turn, m)) e) λ m.
        by_test P (ltb (room rs) record_size) (λ l e. stops_alike (rw (run_turn, m, same_room, l)) e) λ l.
        by_test P (ltb (length ps - used) (length t.payload)) (λ h e. stops_alike (rw (run_turn, m, same_room, l, h)) e) (λ h e. goes_no_further (sym e))
      where
        P : Turn Writing Outcome → Type 0
        P x = x ≡ done o → StopsAlike o

    -- it writes the next item
    pub record WritesAlike (b : Writing) : Type 0 where
      pub going : st.mode ≡ 2 → ⊥
      pub fits : record_size ≤ length rs - record_size * count
      pub is : b ≡ written (with_records rs) (step s name f st)
      pub alike : run_turn s name f (with_records rs') ≡ again (written (with_records rs') (step s name f st))

    pub shadow_writes : (b : Writing) → run_turn s name f (with_records rs) ≡ again b → WritesAlike b
    unfolding run_turn
    shadow_writes b =
        by_test P (eqb st.mode 2) (λ m e. goes_no_further e) λ m.
        by_test P (ltb (room rs) record_size) (λ l e. goes_no_further e) λ l.
        by_test P (ltb (length ps - used) (length t.payload)) (λ h e. goes_no_further e)
        (λ h e. record {
          going = eqb-false st.mode 2 m;
          fits = ltb-false (room rs) record_size l;
          is = sym (ap (writing_of b) e);
          alike = rw (run_turn, m, same_room, l, h);
        })
      where
        P : Turn Writing Outcome → Type 0
        P x = x ≡ again b → WritesAlike b
