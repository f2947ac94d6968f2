-- The theorem for every program, from what is proved of layouts.
use Rattle.std.proofs.Common.{Some, None, sym, true≢false}
use Rattle.tree_spec.specs.Tree.{script, es_module}
use Rattle.grammar_text_spec.specs.Text.{text_start}
use Rattle.print_layout_spec.specs.declared.look.Look.{Look}
use Rattle.again_laws.proofs.text.Programs.{scripts_are_tiled, modules_are_tiled}
use Rattle.again_laws.specs.Laws.{ProgramsAreTiled, ProgramsReadBack}
use Rattle.again_laws.proofs.Written.{tiled_is_read_back}

all_tiled : (look : Look) → ProgramsAreTiled look
all_tiled look modules (script s ss None) c ts r p i h k l e = scripts_are_tiled look text_start modules s ss None c ts r p k h tt e
all_tiled look modules (script s ss (Some own)) c ts r p i h k l e = scripts_are_tiled look text_start modules s ss (Some own) c ts r p k h l e
all_tiled look modules (es_module s ss None) c ts r p i h k l e = modules_are_tiled look text_start modules s ss None c ts r p k h tt e
all_tiled look modules (es_module s ss (Some own)) c ts r p i h k l e = modules_are_tiled look text_start modules s ss (Some own) c ts r p k h l e
all_tiled look modules _ c ts r p i h k l e = absurd (true≢false (sym i))

pub programs_read_back : ProgramsReadBack
programs_read_back look = tiled_is_read_back look (all_tiled look)
