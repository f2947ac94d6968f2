-- Every program that reads a text goes.
use Rattle.std.proofs.Common.{true, false, Some, None}
use Rattle.std.proofs.lemmas.Bool.{false≢true}
use Rattle.tree_spec.specs.Tree.{script, es_module}
use Rattle.grammar_text_spec.specs.Text.{text_start, code_of}
use Rattle.again_laws.proofs.tokens.Known.{tokens_are_known}
use Rattle.again_laws.specs.Text.TiledLaws.{ProgramsGo}
use Rattle.again_laws.proofs.text.Programs.{script_closed, module_closed, bare_goes, body_goes}
use Rattle.again_laws.proofs.Hashbangs.{first_line}

pub programs_go : ProgramsGo
programs_go look modules syntax (script sp ss None) text s h = (bare_goes look sp ss (script_closed look sp ss None (code_of modules syntax) (record { last = text_start; places = h.0 }) h.1 (tokens_are_known text_start modules text h.0 s h.3) h.4.0)).so
programs_go look modules syntax (script sp ss (Some own)) text s h =
    (first_line text_start modules text h.0 own s h.3 h.4.0.1.0, (body_goes look ss (script_closed look sp ss (Some own) (code_of modules syntax) (record { last = text_start; places = h.0 }) h.1 (tokens_are_known text_start modules text h.0 s h.3) h.4.0)).so)
programs_go look modules syntax (es_module sp ss None) text s h = (bare_goes look sp ss (module_closed look sp ss None (code_of modules syntax) (record { last = text_start; places = h.0 }) h.1 (tokens_are_known text_start modules text h.0 s h.3) h.4.0)).so
programs_go look modules syntax (es_module sp ss (Some own)) text s h =
    (first_line text_start modules text h.0 own s h.3 h.4.0.1.0, (body_goes look ss (module_closed look sp ss (Some own) (code_of modules syntax) (record { last = text_start; places = h.0 }) h.1 (tokens_are_known text_start modules text h.0 s h.3) h.4.0)).so)
programs_go look true syntax _ text s h = absurd (false≢true h.2)
programs_go look false syntax _ text s h = absurd (false≢true h.2)
