-- The filled tables give the image of the text; the buffer is tested before it is written.
use native.Mathlib.Omega.{arith}
use mathlib.Core.Path.{◌≡◌}
use lib.ListN.{length}
use Rattle.layout.specs.Layout.{table_words}
use Rattle.cishmolaq.specs.Laws.{fits_short, fits_done, compile_fits}
use borrow.Author.Rules.{rules}
use Rattle.cishmolaq.proofs.write_image.Goals as goal

pub returns-then-image-size : goal.returns-then-image-size
returns-then-image-size c = λ e.
    let a = c.args in
    let size : length a.tables.now ≡ table_words = search rules in
    compile_fits a.text.now a.image.now a.tables.now _ size c.fill_vectors.ensures e
    (fits_short _ a.image.now (omega (arith, c.image_size-size.ensures, c.if-image-size.true)))

pub returns : goal.returns
returns c = λ e.
    let a = c.args in
    let size : length a.tables.now ≡ table_words = search rules in
    let n = c.image_size-size.ensures in
    compile_fits a.text.now a.image.now a.tables.now _ size c.fill_vectors.ensures e
    (fits_done _ a.image.now (omega (arith, n, c.if-image-size.false)) _ n _ c.write_image.ensures)
