-- What the crates above take of those below through this one, so that they need not list them.
unfoldable pub use Rattle.parse_alone.specs.Within.{program_within, within}
