-- Where a header comes to by a beginning of it.
use Rattle.std.proofs.Common.{◌≡◌, ℕ, min, true, false, List, [], ◌∷◌, ◌++◌, Option, Some, None, refl, sym, ap, subst, ◌∙◌, inl, inr, arith}
use Rattle.std.specs.Prelude.{if◌then◌else◌}
use Rattle.std.specs.List.{concat, AllByRecursion}
use Rattle.std.proofs.lemmas.List.{append-nil, append_assoc}
use Rattle.sheet_core.specs.declared.fault.PbmFault.TheVariants.{PbmSize}
use Rattle.sheet_core.specs.declared.pbm.state.State.{State}
use Rattle.sheet_core.specs.declared.pbm.state.State.TheVariants.{Start, Magic, Blanks, Number, Comment}
use Rattle.sheet_core.specs.declared.pbm.state.Step.TheVariants.{Goes, Refused}
use Rattle.sheet_core.specs.pbm.Grammar.{AreBlanks, IsBlank}
use Rattle.sheet_core.specs.pbm.Headers.{is_line_end, is_size}
use Rattle.sheet_core.specs.pbm.Refusals.{EndsInNumber, IsBeginning, IsLead, IsOpenComment}
use Rattle.sheet_core.proofs.pbm.BeginningFacts.{Comes}
use Rattle.sheet_core.proofs.pbm.GrammarFacts.{Leads, both, one, nothing, comment_text, blanks_first, blanks_after, number, numeral, sized}

-- the state before the blanks before a number
abbrev lead_state : Option ℕ → State
lead_state None = Blanks None false
lead_state (Some n) = Number None n

magic : Leads Start (Blanks None false) (80 ∷ 52 ∷ [])
magic = both Start Magic (Blanks None false) (80 ∷ []) (52 ∷ []) (one Start Magic 80 refl) (one Magic (Blanks None false) 52 refl)

lead_leads : (w : Option ℕ) (lead : List ℕ) → IsLead w lead → Leads Start (lead_state w) lead
lead_leads None lead h = subst (Leads Start (Blanks None false)) (sym h) magic
lead_leads (Some n) lead (blanks, digits, are, is, e) =
    subst (Leads Start (Number None n)) (sym e)
    (both Start (Blanks None false) (Number None n) (80 ∷ 52 ∷ []) (concat blanks ++ digits) magic
    (both (Blanks None false) (Blanks None true) (Number None n) (concat blanks) digits (blanks_first None blanks are) (number None n digits is)))

size_of : (n : ℕ) (lead : List ℕ) → IsLead (Some n) lead → is_size n ≡ true
size_of n lead h = let is = h.3 in sized n is.least is.most

blanks_lead : (w : Option ℕ) (lead : List ℕ) → IsLead w lead → (blanks : List (List ℕ)) → AreBlanks blanks
    → Leads (lead_state w) (Blanks w true) (concat blanks)
blanks_lead None lead h blanks are = blanks_first None blanks are
blanks_lead (Some n) lead h blanks are = blanks_after n (size_of n lead h) blanks are

-- a comment may stand directly after `P4` and after the width
sharp_leads : (w : Option ℕ) (lead : List ℕ) → IsLead w lead → Leads (lead_state w) (Comment w) (35 ∷ [])
sharp_leads None lead h = one (Blanks None false) (Comment None) 35 refl
sharp_leads (Some n) lead h = one (Number None n) (Comment (Some n)) 35 (ap (λ x. if x then Goes (Comment (Some n)) else Refused PbmSize) (size_of n lead h))

pub record ComesTo (bytes : List ℕ) : Type 0 where
  pub state : State
  pub leads : Leads Start state bytes
  pub comes : Comes state bytes

-- bytes that are known by another form of them
as_joined : (bytes others : List ℕ) (s : State) → bytes ≡ others → Leads Start s others → Leads Start s bytes
as_joined bytes others s e l = subst (Leads Start s) (sym e) l

-- in the blanks, without a comment at the end
in_blanks : (w : Option ℕ) (bytes lead : List ℕ) (blanks : List (List ℕ)) → IsLead w lead → AllByRecursion IsBlank blanks → bytes ≡ lead ++ concat blanks
    → ComesTo bytes
in_blanks None bytes lead [] is each e = record {
  state = Blanks None false;
  leads = as_joined bytes lead (Blanks None false) (e ∙ append-nil lead) (lead_leads None lead is);
  comes = record { lead = lead; blanks = []; lead_is = is; each = tt; enough = λ k. absurd cc; joined = e };
}
in_blanks (Some n) bytes lead [] (before, digits, are, is, same) each e =
    let most = is.most in
    record {
      state = Number None n;
      leads = as_joined bytes lead (Number None n) (e ∙ append-nil lead) (lead_leads (Some n) lead (before, digits, are, is, same));
      comes = record {
        number = n;
        is = record {
          lead = 80 ∷ 52 ∷ [];
          blanks = before;
          digits = digits;
          lead_is = refl;
          blanks_are = are;
          digits_are = is.numeral;
          joined =
              e ∙ append-nil lead ∙ same;
        };
        counted = omega arith;
      };
    }
in_blanks w bytes lead (x ∷ blanks) is each e =
    let are : AreBlanks (x ∷ blanks) = record { some = omega arith; each = each } in
    record {
      state = Blanks w true;
      leads = as_joined bytes (lead ++ concat (x ∷ blanks)) (Blanks w true) e
          (both Start (lead_state w) (Blanks w true) lead (concat (x ∷ blanks)) (lead_leads w lead is) (blanks_lead w lead is (x ∷ blanks) are));
      comes = record { lead = lead; blanks = x ∷ blanks; lead_is = is; each = each; enough = λ _. omega arith; joined = e };
    }

-- what a comment comes after
before_comment : (w : Option ℕ) (lead : List ℕ) (blanks : List (List ℕ)) → IsLead w lead → AllByRecursion IsBlank blanks
    → Leads Start (Comment w) (lead ++ (concat blanks ++ 35 ∷ []))
before_comment w lead [] is each = both Start (lead_state w) (Comment w) lead (35 ∷ []) (lead_leads w lead is) (sharp_leads w lead is)
before_comment w lead (x ∷ blanks) is each =
    let are : AreBlanks (x ∷ blanks) = record { some = omega arith; each = each } in
    both Start (lead_state w) (Comment w) lead (concat (x ∷ blanks) ++ 35 ∷ []) (lead_leads w lead is)
    (both (lead_state w) (Blanks w true) (Comment w) (concat (x ∷ blanks)) (35 ∷ []) (blanks_lead w lead is (x ∷ blanks) are)
    (one (Blanks w true) (Comment w) 35 refl))

in_comment : (w : Option ℕ) (bytes lead text : List ℕ) (blanks : List (List ℕ)) → IsLead w lead → AllByRecursion IsBlank blanks
    → AllByRecursion (λ c. is_line_end c ≡ false) text
    → bytes ≡ lead ++ (concat blanks ++ 35 ∷ text) → ComesTo bytes
in_comment w bytes lead text blanks is each inside e =
    let regrouped : lead ++ (concat blanks ++ 35 ∷ text) ≡ (lead ++ (concat blanks ++ 35 ∷ [])) ++ text =
    sym (append_assoc lead (concat blanks ++ 35 ∷ []) text ∙ ap (λ bs. lead ++ bs) (append_assoc (concat blanks) (35 ∷ []) text)) in
    record {
      state = Comment w;
      leads = as_joined bytes ((lead ++ (concat blanks ++ 35 ∷ [])) ++ text) (Comment w) (e ∙ regrouped)
          (both Start (Comment w) (Comment w) (lead ++ (concat blanks ++ 35 ∷ [])) text (before_comment w lead blanks is each) (comment_text w text inside));
      comes = record { lead = lead; blanks = blanks; text = text; lead_is = is; each = each; inside = inside; joined = e };
    }

by_comment : (w : Option ℕ) (bytes lead comment : List ℕ) (blanks : List (List ℕ)) → IsLead w lead → AllByRecursion IsBlank blanks → IsOpenComment comment
    → bytes ≡ lead ++ (concat blanks ++ comment) → ComesTo bytes
by_comment w bytes lead [] blanks is each c e = in_blanks w bytes lead blanks is each (e ∙ ap (λ bs. lead ++ bs) (append-nil (concat blanks)))
by_comment w bytes lead (b ∷ text) blanks is each c e = in_comment w bytes lead text blanks is each c.1 (e ∙ ap (λ d. lead ++ (concat blanks ++ d ∷ text)) c.0)

pub number_leads : (w : Option ℕ) (n : ℕ) (bytes : List ℕ) → EndsInNumber w n bytes → Leads Start (Number w (min n 65536)) bytes
number_leads w n bytes h =
    as_joined bytes (h.lead ++ (concat h.blanks ++ h.digits)) (Number w (min n 65536)) h.joined
    (both Start (lead_state w) (Number w (min n 65536)) h.lead (concat h.blanks ++ h.digits) (lead_leads w h.lead h.lead_is)
    (both (lead_state w) (Blanks w true) (Number w (min n 65536)) (concat h.blanks) h.digits (blanks_lead w h.lead h.lead_is h.blanks h.blanks_are)
    (numeral w n h.digits h.digits_are)))

pub comes_to : (bytes : List ℕ) → IsBeginning bytes → ComesTo bytes
comes_to bytes (inl e) = record { state = Start; leads = as_joined bytes [] Start e (nothing Start); comes = e }
comes_to bytes (inr (inl e)) = record { state = Magic; leads = as_joined bytes (80 ∷ []) Magic e (one Start Magic 80 refl); comes = e }
comes_to bytes (inr (inr (inl (w, h)))) = by_comment w bytes h.lead h.comment h.blanks h.lead_is h.each h.comment_is h.joined
comes_to bytes (inr (inr (inr (w, n, h)))) = record {
  state = Number w (min n 65536);
  leads = number_leads w n bytes h;
  comes =
      record { number = n; is = h; counted = refl };
}
