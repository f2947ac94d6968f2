-- Editions of the language.
use Rattle.std.specs.Prelude.{ℕ}
use Rattle.base_token.specs.declared.version.EsVersion.{EsVersion}
use Rattle.base_token.specs.declared.version.EsVersion.TheVariants.{Es3, Es5, Es2015, Es2016, Es2017, Es2018, Es2019, Es2020, Es2021, Es2022, EsNext}

-- how many editions are older
abbrev pub edition_rank : EsVersion → ℕ
edition_rank Es3 = 0
edition_rank Es5 = 1
edition_rank Es2015 = 2
edition_rank Es2016 = 3
edition_rank Es2017 = 4
edition_rank Es2018 = 5
edition_rank Es2019 = 6
edition_rank Es2020 = 7
edition_rank Es2021 = 8
edition_rank Es2022 = 9
edition_rank EsNext = 10
