-- Scripts and modules (ECMA-262, clause 16): their rules over two such lists.
use Rattle.std.proofs.Common.{ℕ, Bool, true, false, not, ◌&&◌, ◌||◌, ◌==◌, if◌then◌else◌, List, [], ◌∷◌, ◌++◌, Option, Some, None, Ok, refl, ap}
use Rattle.base_proofs.proofs.Bools.{not_and_false}
use Rattle.base_token.specs.Kinds.{left_brace_kind, right_brace_kind, comma_kind, mul_kind, str_kind, shebang_kind, default_kind, function_kind, with_kind, class_kind, export_kind, import_kind, as_kind, assert_kind, from_kind}
use Rattle.tree_spec.specs.Tree.{Tree, none, more, pack, import_decl, named_export, export_default_decl, export_default_expr, export_all, import_default_specifier, export_namespace_specifier, absent}
use Rattle.grammar_spec.specs.Tokens.Input.{PlacedToken, Input, span, Code, kind, brk, is_word, in_list, lo_of}
use Rattle.grammar_spec.specs.Tokens.Operators.{assignment_level, exports_end, source_end, plain_end}
use Rattle.grammar_spec.specs.Tokens.Shape.{ends, is_use_strict, is_attributes, is_exportable}
use Rattle.grammar_spec.specs.Reader.Source.{unexpected, ◌>>=◌, input, past, spanned, at, ended, eat, eat_word, name, end_of, go_on, finished, Inner}
use Rattle.grammar_spec.specs.Reader.Expressions.{first}
use Rattle.grammar_spec.specs.Reader.Statements.{Body, starts_async}
use Rattle.grammar_spec.specs.Reader.Modules.{string_by, export_name_by, local_by, attributes_by, source_by, named_import, named_export_item, specifier_step, specifiers_by, star_import, import_end, import_rest, import_default, import_decl_by, export_default, export_star, export_list, starts_declaration, export_by, starts_import, item_by, program_item, program_step, line_of, program_tree, program_rest, program_by}
use Rattle.grammar_laws.proofs.slash.SlashExpressions.{literal_by_twin, object_by_twin, function_expr_by_twin, class_expr_by_twin}
use Rattle.grammar_laws.proofs.slash.Twins.{lm, Parting, regexps, slashes, on, Twins, twin_ok, never, twin_then, twin_found, twin_if, twin_no, cut, parted, same, lo_same, eat_on, eat_at, eat_none, word_on, word_at, word_none, name_on, name_none, any_on, any_none, end_at, iterate_twin, Told}

module _ (w : Parting) (inner : Inner Input) (told : Told w inner) where
  pub string_by_twin : (o : List ℕ) (n : ℕ) (l : List PlacedToken) → Twins w (string_by lm inner (on o n ((l ++ regexps w)))) (string_by lm inner (on o n ((l ++ slashes w))))
  unfolding string_by
  string_by_twin o n l = twin_if w (at lm str_kind (on o n ((l ++ regexps w)))) (at lm str_kind (on o n ((l ++ slashes w)))) (same w (λ z. at lm str_kind (on o n z)) refl refl (λ p. refl) (λ p. refl) (λ p q. refl) (λ p q. refl) (λ p q r l m n. refl) l) _ _ _ _ (λ yes. literal_by_twin w inner told o n l) (λ no. never w _ _)

  pub export_name_by_twin : (o : List ℕ) (n1 : ℕ) (l : List PlacedToken) → Twins w (export_name_by lm inner (on o n1 ((l ++ regexps w)))) (export_name_by lm inner (on o n1 ((l ++ slashes w))))
  unfolding export_name_by
  export_name_by_twin o n1 [] = twin_no w (at lm str_kind (on o n1 (slashes w))) (parted w (λ z. at lm str_kind (on o n1 z)) refl refl) _ _ _ (any_none w o n1 _ _)
  export_name_by_twin o n1 (p ∷ l) = twin_if w (at lm str_kind (on o n1 (p ∷ (l ++ regexps w)))) (at lm str_kind (on o n1 (p ∷ (l ++ slashes w)))) refl _ _ _ _ (λ yes. literal_by_twin w inner told o n1 (p ∷ l)) (λ no. any_on w o n1 p l _ _ (λ nv. twin_ok w _ _ o p.spot.hi l refl))

  pub local_by_twin : (c : Code) (o : List ℕ) (n1 : ℕ) (l : List PlacedToken) → Twins w (local_by lm inner c (on o n1 ((l ++ regexps w)))) (local_by lm inner c (on o n1 ((l ++ slashes w))))
  unfolding local_by
  local_by_twin c o n1 [] = name_none w c o n1 _ _
  local_by_twin c o n1 (p ∷ l) = name_on w c o n1 p l _ _ (λ nv. twin_ok w _ _ o p.spot.hi l refl)

  pub attributes_by_twin : (c : Code) (o1 : List ℕ) (n : ℕ) (l : List PlacedToken) → Twins w (attributes_by lm inner c (on o1 n ((l ++ regexps w)))) (attributes_by lm inner c (on o1 n ((l ++ slashes w))))
  unfolding attributes_by
  attributes_by_twin c o1 n [] = never w _ _
  attributes_by_twin c o1 n (p ∷ l) = twin_if w (at lm left_brace_kind (on o1 n (p ∷ (l ++ regexps w)))) (at lm left_brace_kind (on o1 n (p ∷ (l ++ slashes w)))) refl _ _ _ _ (λ yes. twin_then w _ _ _ _ (object_by_twin w inner told c o1 n p l) (λ ov oo on1 ol. twin_if w (is_attributes ov) (is_attributes ov) refl _ _ _ _ (λ yes. twin_ok w _ _ oo on1 ol refl) (λ no. never w _ _))) (λ no. never w _ _)

  pub source_by_twin : (c : Code) (o1 : List ℕ) (n : ℕ) (l : List PlacedToken) → Twins w (source_by lm inner c (on o1 n ((l ++ regexps w)))) (source_by lm inner c (on o1 n ((l ++ slashes w))))
  unfolding source_by
  source_by_twin c o1 n l = twin_then w _ _ _ _ (string_by_twin o1 n l) (λ fv fo fn fl. cut w (λ z. Twins w (if c.syntax.import_attributes && (at lm with_kind (on fo fn ((z ++ regexps w))) || (at lm assert_kind (on fo fn ((z ++ regexps w))) && not (brk (input lm (on fo fn ((z ++ regexps w))))))) then (eat_word lm c (kind (input lm (on fo fn ((z ++ regexps w))))) (on fo fn ((z ++ regexps w))) >>= λ w. attributes_by lm inner c w >>= λ o. end_of lm c plain_end o.1 >>= λ e. Ok (record { src = fv; with_ = o.0 }, e)) else (end_of lm c source_end (on fo fn ((z ++ regexps w))) >>= λ e. Ok (record { src = fv; with_ = absent }, e))) (if c.syntax.import_attributes && (at lm with_kind (on fo fn ((z ++ slashes w))) || (at lm assert_kind (on fo fn ((z ++ slashes w))) && not (brk (input lm (on fo fn ((z ++ slashes w))))))) then (eat_word lm c (kind (input lm (on fo fn ((z ++ slashes w))))) (on fo fn ((z ++ slashes w))) >>= λ w. attributes_by lm inner c w >>= λ o. end_of lm c plain_end o.1 >>= λ e. Ok (record { src = fv; with_ = o.0 }, e)) else (end_of lm c source_end (on fo fn ((z ++ slashes w))) >>= λ e. Ok (record { src = fv; with_ = absent }, e)))) fl (twin_if w (c.syntax.import_attributes && (at lm with_kind (on fo fn (regexps w)) || (at lm assert_kind (on fo fn (regexps w)) && not (brk (input lm (on fo fn (regexps w))))))) (c.syntax.import_attributes && (at lm with_kind (on fo fn (slashes w)) || (at lm assert_kind (on fo fn (slashes w)) && not (brk (input lm (on fo fn (slashes w))))))) (parted w (λ z. c.syntax.import_attributes && (at lm with_kind (on fo fn z) || (at lm assert_kind (on fo fn z) && not (brk (input lm (on fo fn z)))))) refl refl) _ _ _ _ (λ yes. absurd (not_and_false _ yes)) (λ no. end_at w c source_end fo fn [] _ _ (λ en el. twin_ok w _ _ fo en el refl))) (λ fp fq. twin_if w (c.syntax.import_attributes && (at lm with_kind (on fo fn (fp ∷ (fq ++ regexps w))) || (at lm assert_kind (on fo fn (fp ∷ (fq ++ regexps w))) && not (brk (input lm (on fo fn (fp ∷ (fq ++ regexps w)))))))) (c.syntax.import_attributes && (at lm with_kind (on fo fn (fp ∷ (fq ++ slashes w))) || (at lm assert_kind (on fo fn (fp ∷ (fq ++ slashes w))) && not (brk (input lm (on fo fn (fp ∷ (fq ++ slashes w)))))))) refl _ _ _ _ (λ yes. word_on w c (kind (input lm (on fo fn (fp ∷ (fq ++ regexps w))))) fo fn fp fq _ _ (twin_then w _ _ _ _ (attributes_by_twin c fo fp.spot.hi fq) (λ ov oo on1 ol. end_at w c plain_end oo on1 ol _ _ (λ en el. twin_ok w _ _ oo en el refl)))) (λ no. end_at w c source_end fo fn (fp ∷ fq) _ _ (λ en el. twin_ok w _ _ fo en el refl))))

  pub named_import_twin : (c : Code) (o : List ℕ) (n1 : ℕ) (l1 : List PlacedToken) → Twins w (named_import lm inner c (on o n1 ((l1 ++ regexps w)))) (named_import lm inner c (on o n1 ((l1 ++ slashes w))))
  unfolding named_import
  named_import_twin c o n1 [] = twin_then w _ _ _ _ (export_name_by_twin o n1 []) (λ nv no1 nn nl. twin_if w (at lm as_kind (on no1 nn ((nl ++ regexps w)))) (at lm as_kind (on no1 nn ((nl ++ slashes w)))) (same w (λ z. at lm as_kind (on no1 nn z)) refl refl (λ p. refl) (λ p. refl) (λ p q. refl) (λ p q. refl) (λ p q r l m n. refl) nl) _ _ _ _ (λ yes. word_at w c as_kind (refl, refl, refl) no1 nn nl _ _ (λ an al. twin_then w _ _ _ _ (local_by_twin c no1 an al) (λ lv lo ln ll. twin_ok w _ _ lo ln ll refl))) (λ no. twin_then w _ _ _ _ (twin_found w _ _ _ _ (local_by_twin c o n1 [])) (λ lv lo ln ll. twin_ok w _ _ lo ln ll refl)))
  named_import_twin c o n1 (p ∷ l1) = twin_then w _ _ _ _ (export_name_by_twin o n1 (p ∷ l1)) (λ nv no1 nn nl. twin_if w (at lm as_kind (on no1 nn ((nl ++ regexps w)))) (at lm as_kind (on no1 nn ((nl ++ slashes w)))) (same w (λ z. at lm as_kind (on no1 nn z)) refl refl (λ p. refl) (λ p. refl) (λ p q. refl) (λ p q. refl) (λ p q r l m n. refl) nl) _ _ _ _ (λ yes. word_at w c as_kind (refl, refl, refl) no1 nn nl _ _ (λ an al. twin_then w _ _ _ _ (local_by_twin c no1 an al) (λ lv lo ln ll. twin_ok w _ _ lo ln ll refl))) (λ no. twin_then w _ _ _ _ (twin_found w _ _ _ _ (local_by_twin c o n1 (p ∷ l1))) (λ lv lo ln ll. twin_ok w _ _ lo ln ll refl)))

  pub named_export_item_twin : (c : Code) (o : List ℕ) (n1 : ℕ) (l : List PlacedToken) → Twins w (named_export_item lm inner c (on o n1 ((l ++ regexps w)))) (named_export_item lm inner c (on o n1 ((l ++ slashes w))))
  unfolding named_export_item
  named_export_item_twin c o n1 [] = twin_then w _ _ _ _ (export_name_by_twin o n1 []) (λ nv no1 nn nl. twin_if w (at lm as_kind (on no1 nn ((nl ++ regexps w)))) (at lm as_kind (on no1 nn ((nl ++ slashes w)))) (same w (λ z. at lm as_kind (on no1 nn z)) refl refl (λ p. refl) (λ p. refl) (λ p q. refl) (λ p q. refl) (λ p q r l m n. refl) nl) _ _ _ _ (λ yes. word_at w c as_kind (refl, refl, refl) no1 nn nl _ _ (λ an al. twin_then w _ _ _ _ (export_name_by_twin no1 an al) (λ ev eo en el. twin_ok w _ _ eo en el refl))) (λ no. twin_ok w _ _ no1 nn nl refl))
  named_export_item_twin c o n1 (p ∷ l) = twin_then w _ _ _ _ (export_name_by_twin o n1 (p ∷ l)) (λ nv no1 nn nl. twin_if w (at lm as_kind (on no1 nn ((nl ++ regexps w)))) (at lm as_kind (on no1 nn ((nl ++ slashes w)))) (same w (λ z. at lm as_kind (on no1 nn z)) refl refl (λ p. refl) (λ p. refl) (λ p q. refl) (λ p q. refl) (λ p q r l m n. refl) nl) _ _ _ _ (λ yes. word_at w c as_kind (refl, refl, refl) no1 nn nl _ _ (λ an al. twin_then w _ _ _ _ (export_name_by_twin no1 an al) (λ ev eo en el. twin_ok w _ _ eo en el refl))) (λ no. twin_ok w _ _ no1 nn nl refl))

  pub specifier_step_twin : (imports : Bool) (c : Code) (xs : List Tree) (o : List ℕ) (n : ℕ) (l : List PlacedToken) → Twins w (specifier_step lm inner imports c xs (on o n ((l ++ regexps w)))) (specifier_step lm inner imports c xs (on o n ((l ++ slashes w))))
  unfolding specifier_step
  specifier_step_twin imports c xs o n [] = twin_no w (at lm right_brace_kind (on o n (slashes w))) (parted w (λ z. at lm right_brace_kind (on o n z)) refl refl) _ _ _ (twin_then w _ _ _ _ (twin_if w (imports) (imports) refl _ _ _ _ (λ yes. named_import_twin c o n []) (λ no. named_export_item_twin c o n [])) (λ xv xo xn xl. cut w (λ z. Twins w (if at lm comma_kind (on xo xn ((z ++ regexps w))) then Ok (go_on (xs ++ xv ∷ []), past lm (on xo xn ((z ++ regexps w)))) else (eat lm right_brace_kind (on xo xn ((z ++ regexps w))) >>= λ r. Ok (finished (xs ++ xv ∷ []), r))) (if at lm comma_kind (on xo xn ((z ++ slashes w))) then Ok (go_on (xs ++ xv ∷ []), past lm (on xo xn ((z ++ slashes w)))) else (eat lm right_brace_kind (on xo xn ((z ++ slashes w))) >>= λ r. Ok (finished (xs ++ xv ∷ []), r)))) xl (twin_no w (at lm comma_kind (on xo xn (slashes w))) (parted w (λ z. at lm comma_kind (on xo xn z)) refl refl) _ _ _ (eat_none w right_brace_kind (refl, refl, refl) xo xn _ _)) (λ xp xq. twin_if w (at lm comma_kind (on xo xn (xp ∷ (xq ++ regexps w)))) (at lm comma_kind (on xo xn (xp ∷ (xq ++ slashes w)))) refl _ _ _ _ (λ yes. twin_ok w _ _ xo xp.spot.hi xq refl) (λ no. eat_on w right_brace_kind xo xn xp xq _ _ (twin_ok w _ _ xo xp.spot.hi xq refl)))))
  specifier_step_twin imports c xs o n (p ∷ l) = twin_if w (at lm right_brace_kind (on o n (p ∷ (l ++ regexps w)))) (at lm right_brace_kind (on o n (p ∷ (l ++ slashes w)))) refl _ _ _ _ (λ yes. twin_ok w _ _ o p.spot.hi l refl) (λ no. twin_then w _ _ _ _ (twin_if w (imports) (imports) refl _ _ _ _ (λ yes. named_import_twin c o n (p ∷ l)) (λ no. named_export_item_twin c o n (p ∷ l))) (λ xv xo xn xl. cut w (λ z. Twins w (if at lm comma_kind (on xo xn ((z ++ regexps w))) then Ok (go_on (xs ++ xv ∷ []), past lm (on xo xn ((z ++ regexps w)))) else (eat lm right_brace_kind (on xo xn ((z ++ regexps w))) >>= λ r. Ok (finished (xs ++ xv ∷ []), r))) (if at lm comma_kind (on xo xn ((z ++ slashes w))) then Ok (go_on (xs ++ xv ∷ []), past lm (on xo xn ((z ++ slashes w)))) else (eat lm right_brace_kind (on xo xn ((z ++ slashes w))) >>= λ r. Ok (finished (xs ++ xv ∷ []), r)))) xl (twin_no w (at lm comma_kind (on xo xn (slashes w))) (parted w (λ z. at lm comma_kind (on xo xn z)) refl refl) _ _ _ (eat_none w right_brace_kind (refl, refl, refl) xo xn _ _)) (λ xp xq. twin_if w (at lm comma_kind (on xo xn (xp ∷ (xq ++ regexps w)))) (at lm comma_kind (on xo xn (xp ∷ (xq ++ slashes w)))) refl _ _ _ _ (λ yes. twin_ok w _ _ xo xp.spot.hi xq refl) (λ no. eat_on w right_brace_kind xo xn xp xq _ _ (twin_ok w _ _ xo xp.spot.hi xq refl)))))

  pub specifiers_by_twin : (imports : Bool) (c : Code) (o : List ℕ) (n : ℕ) (l : List PlacedToken) → Twins w (specifiers_by lm inner imports c (on o n ((l ++ regexps w)))) (specifiers_by lm inner imports c (on o n ((l ++ slashes w))))
  unfolding specifiers_by
  specifiers_by_twin imports c o n l = iterate_twin w _ _ (λ x xo xn xl. specifier_step_twin imports c x xo xn xl) [] o n l

  pub star_import_twin : (c : Code) (o : List ℕ) (n : ℕ) (l1 : List PlacedToken) → Twins w (star_import lm inner c (on o n ((l1 ++ regexps w)))) (star_import lm inner c (on o n ((l1 ++ slashes w))))
  unfolding star_import
  star_import_twin c o n [] = eat_none w mul_kind (refl, refl, refl) o n _ _
  star_import_twin c o n (p ∷ l1) = eat_on w mul_kind o n p l1 _ _ (word_at w c as_kind (refl, refl, refl) o p.spot.hi l1 _ _ (λ an al. twin_then w _ _ _ _ (local_by_twin c o an al) (λ lv lo ln ll. twin_ok w _ _ lo ln ll refl)))

  pub import_end_twin : (c : Code) (starto : List ℕ) (startn : ℕ) (startl : List PlacedToken) (xs : List Tree) (o : List ℕ) (n : ℕ) (l : List PlacedToken) → Twins w (import_end lm inner c (lo_of startn (startl ++ regexps w)) xs (on o n ((l ++ regexps w)))) (import_end lm inner c (lo_of startn (startl ++ slashes w)) xs (on o n ((l ++ slashes w))))
  unfolding import_end
  import_end_twin c starto startn startl xs o n l = word_at w c from_kind (refl, refl, refl) o n l _ _ (λ rn rl. twin_then w _ _ _ _ (source_by_twin c o rn rl) (λ fv fo fn fl. twin_ok w _ _ fo fn fl (ap (λ (z : ℕ). import_decl (span z fn) (pack xs) fv.src fv.with_) (lo_same w starto startn startl))))

  pub import_rest_twin : (c : Code) (starto : List ℕ) (startn : ℕ) (startl : List PlacedToken) (xs : List Tree) (o : List ℕ) (n : ℕ) (l : List PlacedToken) → Twins w (import_rest lm inner c (lo_of startn (startl ++ regexps w)) xs (on o n ((l ++ regexps w)))) (import_rest lm inner c (lo_of startn (startl ++ slashes w)) xs (on o n ((l ++ slashes w))))
  unfolding import_rest
  import_rest_twin c starto startn startl xs o n l = twin_if w (at lm mul_kind (on o n ((l ++ regexps w)))) (at lm mul_kind (on o n ((l ++ slashes w)))) (same w (λ z. at lm mul_kind (on o n z)) refl refl (λ p. refl) (λ p. refl) (λ p q. refl) (λ p q. refl) (λ p q r l m n. refl) l) _ _ _ _ (λ yes. twin_then w _ _ _ _ (star_import_twin c o n l) (λ xv xo xn xl. import_end_twin c starto startn startl (xs ++ xv ∷ []) xo xn xl)) (λ no. eat_at w left_brace_kind (refl, refl, refl) o n l _ _ (λ rn rl. twin_then w _ _ _ _ (specifiers_by_twin true c o rn rl) (λ ysv yso ysn ysl. import_end_twin c starto startn startl (xs ++ ysv) yso ysn ysl)))

  pub import_default_twin : (c : Code) (starto : List ℕ) (startn : ℕ) (startl : List PlacedToken) (o : List ℕ) (n : ℕ) (l1 : List PlacedToken) → Twins w (import_default lm inner c (lo_of startn (startl ++ regexps w)) (on o n ((l1 ++ regexps w)))) (import_default lm inner c (lo_of startn (startl ++ slashes w)) (on o n ((l1 ++ slashes w))))
  unfolding import_default local_by name
  import_default_twin c starto startn startl o n [] = never w _ _
  import_default_twin c starto startn startl o n (p ∷ l1) = twin_then w _ _ _ _ (local_by_twin c o n (p ∷ l1)) (λ lv lo ln ll. cut w (λ z. Twins w (if at lm comma_kind (on lo ln ((z ++ regexps w))) then import_rest lm inner c (lo_of startn (startl ++ regexps w)) (import_default_specifier (first lm inner (on o n (p ∷ (l1 ++ regexps w)))) lv ∷ []) (past lm (on lo ln ((z ++ regexps w)))) else import_end lm inner c (lo_of startn (startl ++ regexps w)) (import_default_specifier (first lm inner (on o n (p ∷ (l1 ++ regexps w)))) lv ∷ []) (on lo ln ((z ++ regexps w)))) (if at lm comma_kind (on lo ln ((z ++ slashes w))) then import_rest lm inner c (lo_of startn (startl ++ slashes w)) (import_default_specifier (first lm inner (on o n (p ∷ (l1 ++ slashes w)))) lv ∷ []) (past lm (on lo ln ((z ++ slashes w)))) else import_end lm inner c (lo_of startn (startl ++ slashes w)) (import_default_specifier (first lm inner (on o n (p ∷ (l1 ++ slashes w)))) lv ∷ []) (on lo ln ((z ++ slashes w))))) ll (twin_no w (at lm comma_kind (on lo ln (slashes w))) (parted w (λ z. at lm comma_kind (on lo ln z)) refl refl) _ _ _ (import_end_twin c starto startn startl (import_default_specifier (first lm inner (on o n (p ∷ (l1 ++ regexps w)))) lv ∷ []) lo ln [])) (λ lp lq. twin_if w (at lm comma_kind (on lo ln (lp ∷ (lq ++ regexps w)))) (at lm comma_kind (on lo ln (lp ∷ (lq ++ slashes w)))) refl _ _ _ _ (λ yes. import_rest_twin c starto startn startl (import_default_specifier (first lm inner (on o n (p ∷ (l1 ++ regexps w)))) lv ∷ []) lo lp.spot.hi lq) (λ no. import_end_twin c starto startn startl (import_default_specifier (first lm inner (on o n (p ∷ (l1 ++ regexps w)))) lv ∷ []) lo ln (lp ∷ lq))))

  pub import_decl_by_twin : (c : Code) (o : List ℕ) (n : ℕ) (l : List PlacedToken) → Twins w (import_decl_by lm inner c (on o n ((l ++ regexps w)))) (import_decl_by lm inner c (on o n ((l ++ slashes w))))
  unfolding import_decl_by
  import_decl_by_twin c o n [] = word_none w c import_kind (refl, refl, refl) o n _ _
  import_decl_by_twin c o n (p ∷ l) = word_on w c import_kind o n p l _ _ (cut w (λ z. Twins w (if at lm str_kind (on o p.spot.hi ((z ++ regexps w))) then (source_by lm inner c (on o p.spot.hi ((z ++ regexps w))) >>= λ f. Ok (import_decl (spanned lm (lo_of n (p ∷ (l ++ regexps w))) f.1) none f.0.src f.0.with_, f.1)) else (if is_word (kind (input lm (on o p.spot.hi ((z ++ regexps w))))) then import_default lm inner c (lo_of n (p ∷ (l ++ regexps w))) (on o p.spot.hi ((z ++ regexps w))) else import_rest lm inner c (lo_of n (p ∷ (l ++ regexps w))) [] (on o p.spot.hi ((z ++ regexps w))))) (if at lm str_kind (on o p.spot.hi ((z ++ slashes w))) then (source_by lm inner c (on o p.spot.hi ((z ++ slashes w))) >>= λ f. Ok (import_decl (spanned lm (lo_of n (p ∷ (l ++ slashes w))) f.1) none f.0.src f.0.with_, f.1)) else (if is_word (kind (input lm (on o p.spot.hi ((z ++ slashes w))))) then import_default lm inner c (lo_of n (p ∷ (l ++ slashes w))) (on o p.spot.hi ((z ++ slashes w))) else import_rest lm inner c (lo_of n (p ∷ (l ++ slashes w))) [] (on o p.spot.hi ((z ++ slashes w)))))) l (twin_no w (at lm str_kind (on o p.spot.hi (slashes w))) (parted w (λ z. at lm str_kind (on o p.spot.hi z)) refl refl) _ _ _ (twin_no w (is_word (kind (input lm (on o p.spot.hi (slashes w))))) (parted w (λ z. is_word (kind (input lm (on o p.spot.hi z)))) refl refl) _ _ _ (import_rest_twin c o n (p ∷ l) [] o p.spot.hi []))) (λ rp rq. twin_if w (at lm str_kind (on o p.spot.hi (rp ∷ (rq ++ regexps w)))) (at lm str_kind (on o p.spot.hi (rp ∷ (rq ++ slashes w)))) refl _ _ _ _ (λ yes. twin_then w _ _ _ _ (source_by_twin c o p.spot.hi (rp ∷ rq)) (λ fv fo fn fl. twin_ok w _ _ fo fn fl refl)) (λ no. twin_if w (is_word (kind (input lm (on o p.spot.hi (rp ∷ (rq ++ regexps w)))))) (is_word (kind (input lm (on o p.spot.hi (rp ∷ (rq ++ slashes w)))))) refl _ _ _ _ (λ yes. import_default_twin c o n (p ∷ l) o p.spot.hi (rp ∷ rq)) (λ no. import_rest_twin c o n (p ∷ l) [] o p.spot.hi (rp ∷ rq)))))

  pub export_default_twin : (c : Code) (starto : List ℕ) (startn : ℕ) (startl : List PlacedToken) (o : List ℕ) (n : ℕ) (l : List PlacedToken) → Twins w (export_default lm inner c (lo_of startn (startl ++ regexps w)) (on o n ((l ++ regexps w)))) (export_default lm inner c (lo_of startn (startl ++ slashes w)) (on o n ((l ++ slashes w))))
  unfolding export_default
  export_default_twin c starto startn startl o n [] = twin_no w (at lm function_kind (on o n (slashes w))) (parted w (λ z. at lm function_kind (on o n z)) refl refl) _ _ _ (twin_no w (starts_async lm inner (on o n (slashes w))) (parted w (λ z. starts_async lm inner (on o n z)) refl refl) _ _ _ (twin_no w (at lm class_kind (on o n (slashes w))) (parted w (λ z. at lm class_kind (on o n z)) refl refl) _ _ _ (twin_then w _ _ _ _ (told.expr c assignment_level o n []) (λ ev eo en el. end_at w c (ends ev) eo en el _ _ (λ rn rl. twin_ok w _ _ eo rn rl (ap (λ (z : ℕ). export_default_expr (span z rn) ev) (lo_same w starto startn startl)))))))
  export_default_twin c starto startn startl o n (p ∷ l) = twin_if w (at lm function_kind (on o n (p ∷ (l ++ regexps w)))) (at lm function_kind (on o n (p ∷ (l ++ slashes w)))) refl _ _ _ _ (λ yes. twin_then w _ _ _ _ (function_expr_by_twin w inner told c o n p l false o n (p ∷ l)) (λ dv do1 dn dl. twin_ok w _ _ do1 dn dl (ap (λ (z : ℕ). export_default_decl (span z dn) dv) (lo_same w starto startn startl)))) (λ no. twin_if w (starts_async lm inner (on o n (p ∷ (l ++ regexps w)))) (starts_async lm inner (on o n (p ∷ (l ++ slashes w)))) (same w (λ z. starts_async lm inner (on o n (p ∷ z))) refl refl (λ p. refl) (λ p. refl) (λ p q. refl) (λ p q. refl) (λ p q r l m n. refl) l) _ _ _ _ (λ yes. twin_then w _ _ _ _ (function_expr_by_twin w inner told c o n p l true o p.spot.hi l) (λ dv do1 dn dl. twin_ok w _ _ do1 dn dl (ap (λ (z : ℕ). export_default_decl (span z dn) dv) (lo_same w starto startn startl)))) (λ no. twin_if w (at lm class_kind (on o n (p ∷ (l ++ regexps w)))) (at lm class_kind (on o n (p ∷ (l ++ slashes w)))) refl _ _ _ _ (λ yes. twin_then w _ _ _ _ (class_expr_by_twin w inner told c o n (p ∷ l)) (λ dv do1 dn dl. twin_ok w _ _ do1 dn dl (ap (λ (z : ℕ). export_default_decl (span z dn) dv) (lo_same w starto startn startl)))) (λ no. twin_then w _ _ _ _ (told.expr c assignment_level o n (p ∷ l)) (λ ev eo en el. end_at w c (ends ev) eo en el _ _ (λ rn rl. twin_ok w _ _ eo rn rl (ap (λ (z : ℕ). export_default_expr (span z rn) ev) (lo_same w starto startn startl)))))))

  pub export_star_twin : (c : Code) (starto : List ℕ) (startn : ℕ) (startl : List PlacedToken) (o : List ℕ) (n1 : ℕ) (l : List PlacedToken) → Twins w (export_star lm inner c (lo_of startn (startl ++ regexps w)) (on o n1 ((l ++ regexps w)))) (export_star lm inner c (lo_of startn (startl ++ slashes w)) (on o n1 ((l ++ slashes w))))
  unfolding export_star
  export_star_twin c starto startn startl o n1 [] = eat_none w mul_kind (refl, refl, refl) o n1 _ _
  export_star_twin c starto startn startl o n1 (p ∷ l) = eat_on w mul_kind o n1 p l _ _ (twin_if w (at lm as_kind (on o p.spot.hi ((l ++ regexps w)))) (at lm as_kind (on o p.spot.hi ((l ++ slashes w)))) (same w (λ z. at lm as_kind (on o p.spot.hi z)) refl refl (λ p. refl) (λ p. refl) (λ p q. refl) (λ p q. refl) (λ p q r l m n. refl) l) _ _ _ _ (λ yes. word_at w c as_kind (refl, refl, refl) o p.spot.hi l _ _ (λ an al. twin_then w _ _ _ _ (export_name_by_twin o an al) (λ nv no1 nn nl. word_at w c from_kind (refl, refl, refl) no1 nn nl _ _ (λ fn fl. twin_then w _ _ _ _ (source_by_twin c no1 fn fl) (λ xv xo xn xl. twin_ok w _ _ xo xn xl (ap (λ (z : ℕ). named_export (span z xn) (more (export_namespace_specifier (spanned lm (lo_of n1 (p ∷ (l ++ regexps w))) (on no1 nn ((nl ++ regexps w)))) nv) none) xv.src xv.with_) (lo_same w starto startn startl))))))) (λ no. word_at w c from_kind (refl, refl, refl) o p.spot.hi l _ _ (λ fn fl. twin_then w _ _ _ _ (source_by_twin c o fn fl) (λ xv xo xn xl. twin_ok w _ _ xo xn xl (ap (λ (z : ℕ). export_all (span z xn) xv.src xv.with_) (lo_same w starto startn startl))))))

  pub export_list_twin : (c : Code) (starto : List ℕ) (startn : ℕ) (startl : List PlacedToken) (o : List ℕ) (n : ℕ) (l : List PlacedToken) → Twins w (export_list lm inner c (lo_of startn (startl ++ regexps w)) (on o n ((l ++ regexps w)))) (export_list lm inner c (lo_of startn (startl ++ slashes w)) (on o n ((l ++ slashes w))))
  unfolding export_list
  export_list_twin c starto startn startl o n l = eat_at w left_brace_kind (refl, refl, refl) o n l _ _ (λ rn rl. twin_then w _ _ _ _ (specifiers_by_twin false c o rn rl) (λ xsv xso xsn xsl. twin_if w (at lm from_kind (on xso xsn ((xsl ++ regexps w)))) (at lm from_kind (on xso xsn ((xsl ++ slashes w)))) (same w (λ z. at lm from_kind (on xso xsn z)) refl refl (λ p. refl) (λ p. refl) (λ p q. refl) (λ p q. refl) (λ p q r l m n. refl) xsl) _ _ _ _ (λ yes. word_at w c from_kind (refl, refl, refl) xso xsn xsl _ _ (λ fn fl. twin_then w _ _ _ _ (source_by_twin c xso fn fl) (λ xv xo xn xl. twin_ok w _ _ xo xn xl (ap (λ (z : ℕ). named_export (span z xn) (pack xsv) xv.src xv.with_) (lo_same w starto startn startl))))) (λ no. end_at w c exports_end xso xsn xsl _ _ (λ en el. twin_ok w _ _ xso en el (ap (λ (z : ℕ). named_export (span z en) (pack xsv) absent absent) (lo_same w starto startn startl))))))

  pub export_by_twin : (c : Code) (o : List ℕ) (n : ℕ) (l : List PlacedToken) → Twins w (export_by lm inner c (on o n ((l ++ regexps w)))) (export_by lm inner c (on o n ((l ++ slashes w))))
  unfolding export_by
  export_by_twin c o n [] = word_none w c export_kind (refl, refl, refl) o n _ _
  export_by_twin c o n (p ∷ l) = word_on w c export_kind o n p l _ _ (twin_if w (at lm default_kind (on o p.spot.hi ((l ++ regexps w)))) (at lm default_kind (on o p.spot.hi ((l ++ slashes w)))) (same w (λ z. at lm default_kind (on o p.spot.hi z)) refl refl (λ p. refl) (λ p. refl) (λ p q. refl) (λ p q. refl) (λ p q r l m n. refl) l) _ _ _ _ (λ yes. word_at w c default_kind (refl, refl, refl) o p.spot.hi l _ _ (λ dn dl. export_default_twin c o n (p ∷ l) o dn dl)) (λ no. twin_if w (at lm mul_kind (on o p.spot.hi ((l ++ regexps w)))) (at lm mul_kind (on o p.spot.hi ((l ++ slashes w)))) (same w (λ z. at lm mul_kind (on o p.spot.hi z)) refl refl (λ p. refl) (λ p. refl) (λ p q. refl) (λ p q. refl) (λ p q r l m n. refl) l) _ _ _ _ (λ yes. export_star_twin c o n (p ∷ l) o p.spot.hi l) (λ no. twin_if w (at lm left_brace_kind (on o p.spot.hi ((l ++ regexps w)))) (at lm left_brace_kind (on o p.spot.hi ((l ++ slashes w)))) (same w (λ z. at lm left_brace_kind (on o p.spot.hi z)) refl refl (λ p. refl) (λ p. refl) (λ p q. refl) (λ p q. refl) (λ p q r l m n. refl) l) _ _ _ _ (λ yes. export_list_twin c o n (p ∷ l) o p.spot.hi l) (λ no. twin_if w (starts_declaration lm inner (in_list c) (on o p.spot.hi ((l ++ regexps w)))) (starts_declaration lm inner (in_list c) (on o p.spot.hi ((l ++ slashes w)))) (same w (λ z. starts_declaration lm inner (in_list c) (on o p.spot.hi z)) refl refl (λ p. refl) (λ p. refl) (λ p q. refl) (λ p q. refl) (λ p q r l m n. refl) l) _ _ _ _ (λ yes. twin_then w _ _ _ _ (told.stmt (in_list c) o p.spot.hi l) (λ dv do1 dn dl. twin_if w (is_exportable dv) (is_exportable dv) refl _ _ _ _ (λ yes. twin_ok w _ _ do1 dn dl refl) (λ no. never w _ _))) (λ no. never w _ _)))))

  pub item_by_twin : (modules : Bool) (c : Code) (o : List ℕ) (n : ℕ) (l : List PlacedToken) → Twins w (item_by lm inner modules c (on o n ((l ++ regexps w)))) (item_by lm inner modules c (on o n ((l ++ slashes w))))
  unfolding item_by
  item_by_twin modules c o n l = twin_if w (starts_import lm inner (on o n ((l ++ regexps w)))) (starts_import lm inner (on o n ((l ++ slashes w)))) (same w (λ z. starts_import lm inner (on o n z)) refl refl (λ p. refl) (λ p. refl) (λ p q. refl) (λ p q. refl) (λ p q r l m n. refl) l) _ _ _ _ (λ yes. twin_if w (modules) (modules) refl _ _ _ _ (λ yes. import_decl_by_twin c o n l) (λ no. never w _ _)) (λ no. twin_if w (at lm export_kind (on o n ((l ++ regexps w)))) (at lm export_kind (on o n ((l ++ slashes w)))) (same w (λ z. at lm export_kind (on o n z)) refl refl (λ p. refl) (λ p. refl) (λ p q. refl) (λ p q. refl) (λ p q r l m n. refl) l) _ _ _ _ (λ yes. twin_if w (modules) (modules) refl _ _ _ _ (λ yes. export_by_twin c o n l) (λ no. never w _ _)) (λ no. told.stmt c o n l))

  pub program_item_twin : (modules : Bool) (b : Body) (o : List ℕ) (n : ℕ) (l : List PlacedToken) → Twins w (program_item lm inner modules b (on o n ((l ++ regexps w)))) (program_item lm inner modules b (on o n ((l ++ slashes w))))
  unfolding program_item
  program_item_twin modules b o n l = twin_then w _ _ _ _ (item_by_twin modules (in_list b.code) o n l) (λ tv to tn tl. twin_if w (b.starts && is_use_strict tv) (b.starts && is_use_strict tv) refl _ _ _ _ (λ yes. twin_ok w _ _ to tn tl refl) (λ no. twin_ok w _ _ to tn tl refl))

  pub program_step_twin : (modules : Bool) (b : Body) (o : List ℕ) (n : ℕ) (l : List PlacedToken) → Twins w (program_step lm inner modules b (on o n ((l ++ regexps w)))) (program_step lm inner modules b (on o n ((l ++ slashes w))))
  unfolding program_step
  program_step_twin modules b o n l = twin_if w (ended lm (on o n ((l ++ regexps w)))) (ended lm (on o n ((l ++ slashes w)))) (same w (λ z. ended lm (on o n z)) refl refl (λ p. refl) (λ p. refl) (λ p q. refl) (λ p q. refl) (λ p q r l m n. refl) l) _ _ _ _ (λ yes. twin_ok w _ _ o n l refl) (λ no. program_item_twin modules b o n l)

  pub program_rest_twin : (modules : Bool) (c : Code) (starto : List ℕ) (startn : ℕ) (startl : List PlacedToken) (l : Option (List ℕ)) (o : List ℕ) (n : ℕ) (l1 : List PlacedToken) → Twins w (program_rest lm inner modules c (lo_of startn (startl ++ regexps w)) l (on o n ((l1 ++ regexps w)))) (program_rest lm inner modules c (lo_of startn (startl ++ slashes w)) l (on o n ((l1 ++ slashes w))))
  unfolding program_rest
  program_rest_twin modules c starto startn startl l o n l1 = twin_then w _ _ _ _ (iterate_twin w _ _ (λ x xo xn xl. program_step_twin modules x xo xn xl) (record { items = []; code = c; starts = true }) o n l1) (λ bv bo bn bl. twin_ok w _ _ bo bn bl (ap (λ (z : ℕ). program_tree lm inner modules (span z bn) (pack bv.items) l) (lo_same w starto startn startl)))

  pub program_by_twin : (modules : Bool) (c : Code) (o : List ℕ) (n : ℕ) (l : List PlacedToken) → Twins w (program_by lm inner modules c (on o n (l ++ regexps w))) (program_by lm inner modules c (on o n (l ++ slashes w)))
  unfolding program_by
  program_by_twin modules c o n [] = twin_no w (at lm shebang_kind (on o n (slashes w))) (parted w (λ z. at lm shebang_kind (on o n z)) refl refl) _ _ _ (program_rest_twin modules c o n [] None o n [])
  program_by_twin modules c o n (p ∷ l) = twin_if w (p.spot.token.kind == shebang_kind) (p.spot.token.kind == shebang_kind) refl _ _ _ _ (λ yes. by_line (line_of lm inner p.spot.token.content)) (λ yes. program_rest_twin modules c o n (p ∷ l) None o n (p ∷ l))
    where
      by_line : (t : Option (List ℕ)) → Twins w {A = Tree} (elim t [ None ↦ unexpected lm (on o n (p ∷ (l ++ regexps w))) | Some k ↦ program_rest lm inner modules c (lo_of n (p ∷ (l ++ regexps w))) (Some k) (on o p.spot.hi (l ++ regexps w)) ]) (elim t [ None ↦ unexpected lm (on o n (p ∷ (l ++ slashes w))) | Some k ↦ program_rest lm inner modules c (lo_of n (p ∷ (l ++ slashes w))) (Some k) (on o p.spot.hi (l ++ slashes w)) ])
      by_line None = never w _ _
      by_line (Some k) = program_rest_twin modules c o n (p ∷ l) (Some k) o p.spot.hi l
