-- The lines of the filled tables are measured first, and written where there is room.
use native.Mathlib.Omega.{arith}
use mathlib.Core.Path.{◌≡◌}
use lib.ListN.{length}
use Rattle.layout.specs.Layout.{table_words}
use Rattle.cishmolaq.specs.Laws.{print_short, print_done, tables_printed}
use borrow.Author.Rules.{rules}
use Rattle.cishmolaq.proofs.write_lines.Goals as goal

pub returns-then-out-length : goal.returns-then-out-length
returns-then-out-length c = λ e.
    let a = c.args in
    let size : length a.tables.now ≡ table_words = search rules in
    tables_printed a.text.now a.tables.now _ size c.fill_vectors.ensures e
    (print_short _ a.out.now _ _ c.write_tables-length.ensures c.if-out-length.true)

pub returns : goal.returns
returns c = λ e.
    let a = c.args in
    let size : length a.tables.now ≡ table_words = search rules in
    tables_printed a.text.now a.tables.now _ size c.fill_vectors.ensures e
    (print_done _ a.out.now _ _ c.write_tables-length.ensures
    (omega (arith, c.if-out-length.false)) _ _ c.write_tables.ensures)
