-- The editions that spellings tell apart.
use Rattle.std.specs.Prelude.{Bool, nat_lt}
use Rattle.lex_literal.specs.Editions.{edition_rank}
use Rattle.print_spelling.specs.declared.style.Style.{Style}

-- ES3
abbrev pub is_below_es5 : Style → Bool
is_below_es5 style = nat_lt (edition_rank style.target) 1

-- ES3 and ES5
abbrev pub is_up_to_es5 : Style → Bool
is_up_to_es5 style = nat_lt (edition_rank style.target) 2

-- the editions without separators in numbers
abbrev pub is_below_es2021 : Style → Bool
is_below_es2021 style = nat_lt (edition_rank style.target) 8
