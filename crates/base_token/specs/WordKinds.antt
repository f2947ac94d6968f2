-- What contracts see of the words of the code.
use Rattle.std.specs.Prelude.{ℕ, Result, Ok, Err}
use Rattle.base_token.specs.Kinds.{await_kind, break_kind, case_kind, catch_kind, continue_kind, debugger_kind, default_kind, do_kind, else_kind, finally_kind, for_kind, function_kind, if_kind, return_kind, switch_kind, throw_kind, try_kind, var_kind, let_kind, const_kind, while_kind, with_kind, new_kind, this_kind, super_kind, class_kind, extends_kind, export_kind, import_kind, yield_kind, in_kind, instanceof_kind, typeof_kind, void_kind, delete_kind, accessor_kind, as_kind, assert_kind, async_kind, enum_kind, from_kind, get_kind, implements_kind, interface_kind, meta_kind, of_kind, package_kind, private_kind, protected_kind, public_kind, set_kind, static_kind, target_kind, undefined_kind, using_kind, name_kind}
use Rattle.base_token.specs.declared.word.Keyword.{Keyword}
use Rattle.base_token.specs.declared.word.Keyword.TheVariants.{Await, Break, Case, Catch, Continue, Debugger, Default_, Do, Else, Finally, For, Function, If, Return, Switch, Throw, Try, Var, Let, Const, While, With, New, This, Super, Class, Extends, Export, Import, Yield, In, InstanceOf, TypeOf, Void, Delete}
use Rattle.base_token.specs.declared.word.KnownIdent.{KnownIdent}
use Rattle.base_token.specs.declared.word.KnownIdent.TheVariants.{Accessor, As, Assert, Async, Enum, From, Get, Implements, Interface, Meta, Of, Package, Private, Protected, Public, Set, Static, Target, Undefined, Using}

-- a keyword's kind
abbrev pub keyword_kind : Keyword → ℕ
keyword_kind Await = await_kind
keyword_kind Break = break_kind
keyword_kind Case = case_kind
keyword_kind Catch = catch_kind
keyword_kind Continue = continue_kind
keyword_kind Debugger = debugger_kind
keyword_kind Default_ = default_kind
keyword_kind Do = do_kind
keyword_kind Else = else_kind
keyword_kind Finally = finally_kind
keyword_kind For = for_kind
keyword_kind Function = function_kind
keyword_kind If = if_kind
keyword_kind Return = return_kind
keyword_kind Switch = switch_kind
keyword_kind Throw = throw_kind
keyword_kind Try = try_kind
keyword_kind Var = var_kind
keyword_kind Let = let_kind
keyword_kind Const = const_kind
keyword_kind While = while_kind
keyword_kind With = with_kind
keyword_kind New = new_kind
keyword_kind This = this_kind
keyword_kind Super = super_kind
keyword_kind Class = class_kind
keyword_kind Extends = extends_kind
keyword_kind Export = export_kind
keyword_kind Import = import_kind
keyword_kind Yield = yield_kind
keyword_kind In = in_kind
keyword_kind InstanceOf = instanceof_kind
keyword_kind TypeOf = typeof_kind
keyword_kind Void = void_kind
keyword_kind Delete = delete_kind

-- a known name's kind
abbrev pub known_kind : KnownIdent → ℕ
known_kind Accessor = accessor_kind
known_kind As = as_kind
known_kind Assert = assert_kind
known_kind Async = async_kind
known_kind Enum = enum_kind
known_kind From = from_kind
known_kind Get = get_kind
known_kind Implements = implements_kind
known_kind Interface = interface_kind
known_kind Meta = meta_kind
known_kind Of = of_kind
known_kind Package = package_kind
known_kind Private = private_kind
known_kind Protected = protected_kind
known_kind Public = public_kind
known_kind Set = set_kind
known_kind Static = static_kind
known_kind Target = target_kind
known_kind Undefined = undefined_kind
known_kind Using = using_kind

-- the kind of the keyword that a text was found to be, or that of a name
abbrev pub keyword_found : {E : Type 0} → Result Keyword E → ℕ
keyword_found (Ok keyword) = keyword_kind keyword
keyword_found (Err e) = name_kind

-- the kind of the known name that a text was found to be, or that of any other name
abbrev pub known_found : {E : Type 0} → Result KnownIdent E → ℕ
known_found (Ok known) = known_kind known
known_found (Err e) = name_kind
