-- Comments that are kept one after another.
use Rattle.std.proofs.Common.{◌≡◌, ℕ, ◌⊎◌, inl, inr, Bool, true, false, ◌||◌, List, [], ◌∷◌, ◌++◌, length, map, take, drop, Option, Some, None, append_assoc, append-nil, take-append-drop, drop_of_length-le, refl, sym, ap, subst, ◌∙◌, arith}
use Rattle.std.specs.List.{list_any}
use Rattle.std.specs.Prelude.{MatchBool, is_none}
use Rattle.std.proofs.lemmas.Bool.{false≢true}
use Rattle.base_token.specs.Tokens.{Spot}
use Rattle.base_token.specs.declared.token.TokenKind.{TokenKind}
use Rattle.lex_pieces.specs.Punctuators.{IsPunctuator, NoPunctuator}
use Rattle.base_token.specs.declared.error.Error.{Error}
use Rattle.base_token.specs.declared.error.SyntaxError.TheVariants.{Memory}
use Rattle.lex_pieces.specs.Notes.{FollowNoted, IsCollected, IsCollectedUpTo}
use Rattle.lex_pieces.specs.Trivia.{Piece, IsFault, NoPiece, breaks}
use Rattle.lex_pieces.specs.declared.comments.Comment.{Comment as Read}
use Rattle.lex_pieces.specs.declared.trivia.Goal.{Goal}
use Rattle.lex_comments.specs.Comments.{owned_comment}
use Rattle.lex_comments.specs.Store.{leading_at, trailing_at}
use Rattle.lex_comments.specs.declared.store.Comments.{Comments}
use Rattle.lex_step_laws.specs.States.{State, again, goal_of, is_start, place}
use Rattle.lex_step_laws.proofs.TriviaLemmas.{bad_none}
use Rattle.lex_comments.specs.Comments.{IsAdded, IsSame}
use Rattle.lex_comments.specs.declared.owned.Comment.{Comment}
use Rattle.ecma_lexer.specs.Kept.{AreAdded, AreKept, AreLeft, ArePassed, AreThere, EndsSlash, lead_place}

pub added_none : (old : ℕ → List Comment) (pos : ℕ) → AreAdded old old pos []
added_none old pos = record { here = sym (append-nil (old pos)); others = λ q n. refl }

pub added_more : (old mid new : ℕ → List Comment) (pos : ℕ) (cs : List Comment) (c : Comment) → AreAdded old mid pos cs → IsAdded mid new pos c → AreAdded old new pos (cs ++ c ∷ [])
added_more old mid new pos cs c h g = record {
  here = g.here ∙ ap (λ l. l ++ c ∷ []) h.here ∙ append_assoc (old pos) cs (c ∷ []);
  others = λ q n. g.others q n ∙ h.others q n;
}

pub same_more : (old mid new : ℕ → List Comment) → IsSame old mid → IsSame mid new → IsSame old new
same_more old mid new h g q = g q ∙ h q

-- ---- what collecting answers

abbrev There : State → Goal → Bool → List Read → Type 0
There s goal first cs = (ps : List Piece) × (r : List ℕ) × FollowNoted s.tokens.end goal first s.tokens.left ps cs r × NoPiece goal (first || list_any breaks ps) r

there : (s : State) (goal : Goal) (first : Bool) (old cs notes : List Read) → goal ≡ goal_of s.settings.ctx → first ≡ is_start s.tokens.last → old ≡ []
    → notes ≡ old ++ cs → There s goal first cs → AreThere s notes
there s goal first old cs notes g f o e h =
    subst (There s (goal_of s.settings.ctx) (is_start s.tokens.last)) (sym (e ∙ ap (λ l. l ++ cs) o))
    (subst (λ k. There s k (is_start s.tokens.last) cs) g (subst (λ b. There s goal b cs) f h))

pub are_there : (s : State) (goal : Goal) (first broke : Bool) (rest : List ℕ) (old notes : List Read) → goal ≡ goal_of s.settings.ctx → first ≡ is_start s.tokens.last → old ≡ []
    → IsCollected s.tokens.end goal first s.tokens.left broke rest old notes → AreThere s notes
are_there s goal first broke rest old notes g f o h = there s goal first old h.1 notes g f o h.2 (h.0, rest, h.3, h.4.0)

none_by : (end : ℕ) (goal : Goal) (first : Bool) (rest : List ℕ) (e : Error) → (e.kind ≡ Memory → ⊥) → (e.kind ≡ Memory) ⊎ IsFault end goal first rest e → NoPiece goal first rest
none_by end goal first rest e n (inl m) = absurd (n m)
none_by end goal first rest e n (inr (inl h)) = bad_none goal first rest (inl h.1)
none_by end goal first rest e n (inr (inr h)) = bad_none goal first rest (inr (h.1.0, h.1.1))

pub are_there_up_to : (s : State) (goal : Goal) (first : Bool) (e : Error) (old notes : List Read) → goal ≡ goal_of s.settings.ctx → first ≡ is_start s.tokens.last → old ≡ []
    → (e.kind ≡ Memory → ⊥) → IsCollectedUpTo s.tokens.end goal first s.tokens.left e old notes → AreThere s notes
are_there_up_to s goal first e old notes g f o n h =
    there s goal first old h.1 notes g f o h.3 (h.0, h.2, h.4, none_by s.tokens.end goal (first || list_any breaks h.0) h.2 e n h.5)

pub not_matched : (b : Bool) (P Q : Type 0) → b ≡ false → MatchBool b P Q → Q
not_matched true P Q e h = absurd (false≢true (sym e))
not_matched false P Q e h = h

-- ---- what a step keeps

-- what was added to the same comments
added_from : (old mid new : ℕ → List Comment) (pos : ℕ) (cs : List Comment) → IsSame old mid → AreAdded mid new pos cs → AreAdded old new pos cs
added_from old mid new pos cs h g = record {
  here = g.here ∙ ap (λ l. l ++ cs) (h pos);
  others = λ q n. g.others q n ∙ h q;
}

-- where the slash ends
pub ends_slash : (o : Option (List ℕ)) (end : ℕ) (from rest : List ℕ) (kind : TokenKind) (p : ℕ) → Some from ≡ o → IsPunctuator from kind rest → p ≡ place end rest
    → EndsSlash o end (Some p)
ends_slash o end from rest kind p e h at = subst (λ (x : Option (List ℕ)). EndsSlash x end (Some p)) e (inl (kind, rest, h, ap (λ (n : ℕ). Some n) at))

pub ends_none : (o : Option (List ℕ)) (end : ℕ) → None ≡ o → EndsSlash o end None
ends_none o end e = subst (λ (x : Option (List ℕ)). EndsSlash x end None) e refl

pub ends_no_mark : (o : Option (List ℕ)) (end : ℕ) (from : List ℕ) → Some from ≡ o → NoPunctuator from → EndsSlash o end None
ends_no_mark o end from e h = subst (λ (x : Option (List ℕ)). EndsSlash x end None) e (inr (h, refl))

pub kept_by : (s : State) (out : Option Spot) (old stepped mid new : Comments) (slash : Option ℕ) (notes slice : List Read) (n behind lo : ℕ) (start at_end : Bool) (count : ℕ) → ArePassed s notes
    → EndsSlash (again s) s.tokens.end slash → AreLeft slash (trailing_at stepped) (trailing_at mid) → IsSame (leading_at stepped) (leading_at mid)
    → AreAdded (trailing_at mid) (trailing_at new) behind (map owned_comment (take n slice)) → AreAdded (leading_at mid) (leading_at new) lo (map owned_comment (drop n slice))
    → stepped ≡ old → slice ≡ notes → behind ≡ place s.tokens.end s.tokens.left → lo ≡ lead_place out behind → start ≡ is_start s.tokens.last
    → (start ≡ true → n ≡ 0) → (start ≡ false → at_end ≡ true → n ≡ count) → count ≡ length slice → at_end ≡ is_none out → AreKept s out old new
kept_by s out old stepped mid new slash notes slice n behind lo start at_end count p ends w same t l m e b f k first last c a = record {
  trail = take n slice;
  lead = drop n slice;
  passed = subst (ArePassed s) (sym (take-append-drop n slice ∙ e)) p;
  slash = slash;
  behind_slash = ends;
  left = trailing_at mid;
  withdrawn = subst (λ o. AreLeft slash (trailing_at o) (trailing_at mid)) m w;
  trailing = subst (λ q. AreAdded (trailing_at mid) (trailing_at new) q (map owned_comment (take n slice))) b t;
  leading = subst (λ q. AreAdded (leading_at old) (leading_at new) q (map owned_comment (drop n slice))) (f ∙ ap (lead_place out) b)
      (subst (λ o. AreAdded (leading_at o) (leading_at new) lo (map owned_comment (drop n slice))) m (added_from (leading_at stepped) (leading_at mid) (leading_at new) lo _ same l));
  first = λ h. ap (λ j. take j slice) (first (k ∙ h));
  last = λ h o. let full : n ≡ length slice = last (k ∙ h) (a ∙ ap is_none o) ∙ c in ap (λ j. drop j slice) full ∙ drop_of_length-le slice (omega arith);
}
