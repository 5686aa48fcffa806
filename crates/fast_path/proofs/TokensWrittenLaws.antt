-- A run's tokens, one after the other: what holds between two of them, and what stands ahead after the last. Rests on the laws of
-- actions, of tokens that were written and of a run that goes on.
use Rattle.std.specs.Prelude.{Some}
use Prim.Native.Nat.{ℕ, ◌+◌, ◌-◌, ◌*◌, ◌≤◌, ◌<◌}
use mathlib.Core.Path.{◌≡◌, refl, ◌∙◌, ap}
use mathlib.Core.Bool.{Bool}
use mathlib.Core.List.{List, []}
use native.Mathlib.Omega.{arith}
use lib.ListN.{length}
use Rattle.definition.specs.Basics.{Bytes}
use Rattle.definition.specs.ClassFile.{class_check}
use Rattle.definition.specs.Item.{record_size}
use Rattle.definition.specs.Run.{run_turn}
use Rattle.definition.specs.declared.Choice.{Choice}
use Rattle.laws_run.specs.Left.{left}
use Rattle.laws_run.specs.Going.{run_from}
use Rattle.position.specs.AsciiRuns.{Plain}
use Rattle.position.specs.declared.columns.AsciiRun.{AsciiRun}
use Rattle.reader.specs.declared.Cursor.{Cursor}
use Rattle.reader.specs.declared.actions.Action.{Action}
use Rattle.reader.specs.declared.actions.Action.TheVariants.{Token, Error, LineComment}
use Rattle.rule_table.specs.declared.table.Rule.TheVariants as rules
use Rattle.rule_table.specs.declared.table.ActionRule.{ActionRule}
use Rattle.rule_table.specs.declared.table.ReaderRule.{ReaderRule}
use Rattle.lookahead.specs.Lookahead.{Looks, SeesRule}
use Rattle.lookahead.specs.declared.NextItem.TheVariants.{ByReader, ByAction, InComment}
use Rattle.select.specs.Standing.{Lent}
use Rattle.run_turn.specs.declared.TurnResult.TheVariants.{Wrote}
use Rattle.run_turn.specs.Running.{writing, Ran, Between}
use Rattle.run_turn.proofs.AheadLaws.{Gives, ahead_inside, ahead_reader, ahead_action, action_is_step}
use Rattle.run_turn.proofs.RunLaws.{between_any, between_on, ran_same}
use Rattle.fast_path.specs.Puts.{Writes, Puts}
use Rattle.fast_path.specs.declared.puts.TokenPut.{TokenPut}
use Rattle.fast_path.specs.TokensWritten.{WritesTokens}
use Rattle.fast_path.specs.declared.TokensWritten.{TokensWritten}
use Rattle.fast_path.proofs.RanLaws.{action_ran}

-- ---- a token that was written

module _ {s f : Bytes} {at here : Cursor} {c : Choice} {rule : ActionRule} (m : at.st.mode ≡ 0) (h : SeesRule s f at here c (rules.Action rule))
    (accepted : class_check f ≡ 0) {x : Action} (gives : Gives s here c rule x) where
  -- it is a turn of the run
  pub action_turn : (count used : ℕ) (rs : List ℕ) (ps : Bytes) (t : TokenPut) (rs' : List ℕ) (ps' : Bytes)
      → Puts s here x (record_size * count) used rs ps (Some t) rs' ps' → (name : Bytes) → length name ≤ 4096
      → Ran s (run_turn s name f (writing at count used rs ps)) count at.st (Wrote t.next t.used) rs' ps'
  action_turn count used rs ps t rs' ps' w name named =
      action_ran s name f at here count used rs ps (λ e. absurd (omega (arith, m, e))) c.end x t rs' ps' (action_is_step m h accepted gives name named)
      (gives name named).fits w

-- after it reading goes on between comments, with a run of ASCII, and there was room for its record
pub put_stays : (s : Bytes) (here : Cursor) (x : Action) (first used : ℕ) (rs : List ℕ) (ps : Bytes) (t : TokenPut) (rs' : List ℕ)
    (ps' : Bytes) → here.st.mode ≡ 0 → Puts s here x first used rs ps (Some t) rs' ps'
    → (t.next.st.mode ≡ 0) × Plain s t.plain × (record_size ≤ length rs - first)
put_stays s here (Token k i e p) first used rs ps t rs' ps' m w = (rw w.after m, w.plain, w.record_room)
put_stays s here (Error n p) first used rs ps t rs' ps' m w = absurd w
put_stays s here LineComment first used rs ps t rs' ps' m w = absurd w

-- ---- the loop

-- between two tokens: what is still to come is what was to come before the first, whatever the file's name is, and where no record
-- fits there was no token
pub record WritingTokens (s f : Bytes) (start : Cursor) (begun filled : ℕ) (rs₀ : List ℕ) (ps₀ : Bytes) (at : Cursor) (count used : ℕ) (known : AsciiRun) (rs : List ℕ)
    (ps : Bytes) : Type 0 where
  pub between : Between s [] f at count used rs ps
  pub mode : at.st.mode ≡ 0
  pub plain : Plain s known
  pub same : (name : Bytes) → length name ≤ 4096 → run_from s name f (writing at count used rs ps) ≡ run_from s name f (writing start begun filled rs₀ ps₀)
  pub less : left s at.st ≤ left s start.st
  pub full : length rs₀ < record_size * begun + record_size → (at ≡ start) × (count ≡ begun) × (used ≡ filled) × (rs ≡ rs₀) × (ps ≡ ps₀)

pub tokens_start : {s f : Bytes} {start : Cursor} {begun filled : ℕ} {rs : List ℕ} {ps : Bytes} → Between s [] f start begun filled rs ps → start.st.mode ≡ 0
    → WritingTokens s f start begun filled rs ps start begun filled (record { from = 0; to = 0 }) rs ps
tokens_start b m = record {
  between = b;
  mode = m;
  plain = λ k l u. absurd (omega (arith, u));
  same = λ name named. refl;
  less = omega arith;
  full = λ narrow. (refl, refl, refl, refl, refl);
}

module _ {s f : Bytes} {start : Cursor} {begun filled : ℕ} {rs₀ : List ℕ} {ps₀ : Bytes} {at : Cursor} {count used : ℕ} {plain : AsciiRun} {rs : List ℕ} {ps : Bytes}
    (k : WritingTokens s f start begun filled rs₀ ps₀ at count used plain rs ps) where
  -- what looking ahead and writing ask for
  pub looks_asked : {ops symbols : List Bool} → Lent f ops symbols → Looks s f ops symbols at
  looks_asked lent = record { standing = record { stands = k.between.kept.stands; cached = k.between.cached }; between = k.mode; lent = lent }

  pub writes_asked : Writes s (record_size * count) used plain rs ps
  writes_asked = record {
    begun = k.between.kept.begun;
    filled = k.between.kept.filled;
    little = omega (arith, k.between.kept.spent);
    plain = k.plain;
  }

  -- a token that was written is passed
  pub tokens_on : {next : Cursor} {used' : ℕ} {plain' : AsciiRun} {rs' : List ℕ} {ps' : Bytes}
      → ((name : Bytes) → length name ≤ 4096 → Ran s (run_turn s name f (writing at count used rs ps)) count at.st (Wrote next used') rs' ps')
      → (next.st.mode ≡ 0) × Plain s plain' × (record_size ≤ length rs - record_size * count)
      → WritingTokens s f start begun filled rs₀ ps₀ next (count + 1) used' plain' rs' ps' × (left s next.st < left s at.st)
  tokens_on {next} {used'} {plain'} {rs'} {ps'} ran stays =
      let b = between_on k.between next used' rs' ps' (ran [] (omega arith)) in (
        record {
          between = b.0;
          mode = stays.0;
          plain = stays.1;
          same = λ name named. ran_same (between_any k.between name named) next used' rs' ps' (ran name named) ∙ k.same name named;
          less = omega (arith, b.1, k.less);
          full = λ narrow. let u = k.full narrow in absurd (omega (arith, narrow, u.1, ap length u.3, stays.2));
        },
        b.1,
      )

  -- after the tokens stands a choice whose rule reads for itself
  pub then_reader : {here : Cursor} {c : Choice} {rule : ReaderRule} {b : TokensWritten} → SeesRule s f at here c (rules.Reader rule)
      → b ≡ record { at = at; here = here; ahead = ByReader c rule; count = count; used = used } → WritesTokens s f start begun filled rs₀ ps₀ b rs ps
  then_reader h q = rw q (record { between = k.between; same = k.same; ahead = ahead_reader k.mode h; less = k.less; full = k.full })

  module _ {here : Cursor} {c : Choice} {rule : ActionRule} (h : SeesRule s f at here c (rules.Action rule)) {x : Action} (gives : Gives s here c rule x) where
    -- or an action that was left
    pub then_action : {rs' : List ℕ} {ps' : Bytes} {b : TokensWritten} → (rs' ≡ rs) × (ps' ≡ ps)
        → b ≡ record { at = at; here = here; ahead = ByAction c.end x; count = count; used = used } → WritesTokens s f start begun filled rs₀ ps₀ b rs' ps'
    then_action (n, m) q = rw (n, m, q) (record {
      between = k.between;
      same = k.same;
      ahead = ahead_action k.mode h k.between.accepted gives;
      less = k.less;
      full = k.full;
    })

    -- an action that was written is passed
    pub token_passed : (t : TokenPut) (rs' : List ℕ) (ps' : Bytes)
        → Puts s here x (record_size * count) used rs ps (Some t) rs' ps'
        → WritingTokens s f start begun filled rs₀ ps₀ t.next (count + 1) t.used t.plain rs' ps' × (left s t.next.st < left s at.st)
    token_passed t rs' ps' w =
        tokens_on (action_turn k.mode h k.between.accepted gives count used rs ps t rs' ps' w)
        (put_stays s here x (record_size * count) used rs ps t rs' ps' h.faces.between w)

-- in a comment, or where the reading has ended, nothing is passed
pub no_tokens : {s f : Bytes} {start : Cursor} {begun filled : ℕ} {rs : List ℕ} {ps : Bytes} {b : TokensWritten} → Between s [] f start begun filled rs ps
    → (start.st.mode ≡ 0 → ⊥) → b ≡ record { at = start; here = start; ahead = InComment; count = begun; used = filled }
    → WritesTokens s f start begun filled rs ps b rs ps
no_tokens b n q = rw q (record {
  between = b;
  same = λ name named. refl;
  ahead = λ name named. ahead_inside (record { stands = b.kept.stands; cached = b.cached }) n;
  less = omega arith;
  full = λ narrow. (refl, refl, refl, refl, refl);
})
