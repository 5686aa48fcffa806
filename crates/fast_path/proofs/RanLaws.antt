-- A token that was written is the definition's turn of a run. Rests on the laws of spans, of short payloads and of a run's turn.
use Rattle.std.specs.Prelude.{Some}
use Prim.Native.Nat.{ℕ, ◌*◌}
use mathlib.Core.Path.{◌≡◌, refl, sym, subst}
use mathlib.Core.List.{List}
use Rattle.definition.specs.Basics.{Bytes}
use Rattle.definition.specs.Position.{one_each, pos_of}
use Rattle.definition.specs.State.{advance}
use Rattle.definition.specs.Item.{Step, item_of, record_size}
use Rattle.definition.specs.Token.{step}
use Rattle.definition.specs.Run.{run_turn}
use Rattle.definition.specs.declared.Extra.TheVariants.{NoExtra}
use Rattle.position.specs.Columns.{column_at, located}
use Rattle.position.specs.declared.columns.AsciiRun.{AsciiRun}
use Rattle.reader.specs.declared.Cursor.{Cursor}
use Rattle.reader.specs.declared.Payload.{Payload}
use Rattle.reader.specs.declared.Read.{Read}
use Rattle.reader.specs.Described.{bytes_of, length_of, Reads}
use Rattle.reader.proofs.DescribedBuilding.{token_reads}
use Rattle.reader.proofs.Short.{short_long}
use Rattle.reader.specs.Actions.{Fits, action_step}
use Rattle.reader.specs.declared.actions.Action.{Action}
use Rattle.reader.specs.declared.actions.Action.TheVariants.{Token, Error, LineComment}
use Rattle.reader.proofs.ActionBuilding.{span_reads}
use Rattle.run_turn.specs.declared.TurnResult.TheVariants.{Wrote}
use Rattle.run_turn.specs.Running.{writing, Ran}
use Rattle.run_turn.proofs.TurnLaws.{wrote_ran}
use Rattle.fast_path.specs.Puts.{Written, Puts}
use Rattle.fast_path.specs.declared.puts.TokenPut.{TokenPut}

module _ (s name f : Bytes) (at here : Cursor) (count used : ℕ) (rs : List ℕ) (ps : Bytes) (awake : at.st.mode ≡ 2 → ⊥) (e : ℕ) where
  token_ran : {k i to : ℕ} {p : Payload} {next : Cursor} {used' : ℕ} {known : AsciiRun} {rs' : List ℕ} {ps' : Bytes}
      → action_step s name f here.st e (Token k i to p) ≡ step s name f at.st → Fits s name here (Token k i to p)
      → Written s here k i to p (record_size * count) used rs ps next used' known rs' ps'
      → Ran s (run_turn s name f (writing at count used rs ps)) count at.st (Wrote next used') rs' ps'
  token_ran {k} {i} {to} {p} {next} {used'} {known} {rs'} {ps'} q fits w =
      let st = here.st in
      let size = w.size in
      let long : size ≡ length_of name p = sym (short_long name p size w.short) in
      let r : Read = record {
        item = item_of k size st.offset (pos_of s st i) (pos_of s st to) NoExtra (advance st to);
        payload = p;
        next = advance st to;
        known = column_at one_each s st to;
      } in
      let reads : Reads s name f (step s name f at.st) r = subst (λ (t : Step). Reads s name f t r) q
      (span_reads fits.0 (located s st i) (located s st to) (advance st to) refl refl refl (λ known.
      token_reads s name f (bytes_of s name f p) k p st.offset (pos_of s st i) (pos_of s st to) NoExtra (advance st to) (column_at one_each s st to) size long (fits.1 f) known)) in
      rw (w.after, w.spent) (wrote_ran s name f at count used rs ps awake w.record_room r reads size long rs' ps' w.payload_room w.records (w.payload name f))

  -- an action that was written was a token
  pub action_ran : (x : Action) (t : TokenPut) (rs' : List ℕ) (ps' : Bytes)
      → action_step s name f here.st e x ≡ step s name f at.st → Fits s name here x
      → Puts s here x (record_size * count) used rs ps (Some t) rs' ps'
      → Ran s (run_turn s name f (writing at count used rs ps)) count at.st (Wrote t.next t.used) rs' ps'
  action_ran (Token k i to p) t rs' ps' q fits w = token_ran q fits w
  action_ran (Error n p) t rs' ps' q fits w = absurd w
  action_ran LineComment t rs' ps' q fits w = absurd w
