-- What the crates above take of those below through this one, so that they need not list them.
pub use Rattle.print_layout_laws.proofs.PrintedLemmas.{read_is_printed}
pub use Rattle.print_layout_laws.specs.Marks.{AreWrittenAlike}
pub use Rattle.again_laws.specs.DerivedLaws.BytesLaws.{WritesAgain}
pub use Rattle.again_laws.proofs.text.ReadUtf8.{read_is_text}
pub use Rattle.again_laws.specs.Text.PlacedLaws.{BeginsMarks}
pub use Rattle.again_laws.specs.Tiling.Tiles.{IsEmptyPage}
