-- What doesn't fit is left; what fits has its columns, and is written.
use mathlib.Core.Path.{sym}
use Rattle.fast_path.proofs.TokenLaws.{start_asked, end_asked, end_small, pair_fits, token_written}
use native.Mathlib.Omega.{arith}
use Rattle.fast_path.proofs.puts.put_token.Goals as goal

pub overflow_cast-end : goal.overflow_cast-end
overflow_cast-end c = omega (arith, end_small c.requires)

pub columns-cols-requires : goal.columns-cols-requires
columns-cols-requires c =
    let p = c.requires in
    (start_asked p, end_asked p, c.ascii_run-ascii.ensures)

pub write_pair-requires : goal.write_pair-requires
write_pair-requires c = pair_fits c.requires (sym c.in_ok-size.ensures) c.if-records-first-lt-NEEDED.false c.if-bytes-used.false

pub overflow_add-result : goal.overflow_add-result
overflow_add-result c =
    let f = pair_fits c.requires (sym c.in_ok-size.ensures) c.if-records-first-lt-NEEDED.false c.if-bytes-used.false in
    omega (arith, f.small, f.little)

pub returns : goal.returns
returns c = token_written _ _ _ _ _ _ (sym c.in_ok-size.ensures) c.if-records-first-lt-NEEDED.false c.if-bytes-used.false c.columns-cols.ensures c.advance.ensures c.write_pair.ensures c.ascii_run-ascii.ensures
