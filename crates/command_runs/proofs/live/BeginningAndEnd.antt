-- A live input at its beginning and at its end, for `Live::new` and `answer_live`.
use Rattle.command_runs.specs.declared.live.fault.LiveFault.TheVariants as fault
use Rattle.hub_core.specs.declared.fault.ServeFault.TheVariants as serve
use Rattle.command_runs.proofs.live.Words.{AnswersBy, AreFresh, AreOfRows, AreServedFirst, Bool, Ended, Err, Event, HasCome, Held, IsFresh, IsFrontBy, IsKept, IsPromptBy, IsReplyTo, KeepsReplies, List, LiveFault, LiveTerms, Lived, None, Option, Past, PendingReply, Plain, ServeFault, ServedByPlace, Some, Waiting, [], and_parts, ap, append-nil, arith, counts, eqb-true, false, get_or, get_or_from_slice_get, got_more, held_line, is_none, length, length-replicate, line_meant, lines_are_pieces, live_fault, nat_eq, nil_from_length, nothing_held, pieces_of, plain_of, refl, replicate, replies_in, same_Some, served, slice_get, slice_get_within, subst, sym, true, was_read, was_written, ℕ, ⊎_elim, ◌&&◌, ◌++◌, ◌∙◌, ◌∷◌, ◌≡◌, ◌≢◌}
use Rattle.command_runs.proofs.live.RepliesGrow.{replies_more}
use Rattle.command_runs.proofs.live.ReadsAndWrites.{all_done}
use Rattle.hub_core.proofs.ListsOfLists.{empties_at}
use Rattle.hub_core.specs.declared.ended.Ended.TheVariants.{BringFailed, Done, NoMemory, WaitFailed}

-- ---- the beginning

-- no read and no write: nothing came before a read, and what was written is a front of whatever answers
nothing_prompt : {X : Type 0} (L : X → List ℕ → Type 0) (records : List (List ℕ) → List X) → IsPromptBy L records []
nothing_prompt L records [] after bytes is = absurd (cc is)
nothing_prompt L records (e ∷ before) after bytes is = absurd (cc is)

nothing_front : {X : Type 0} (L : X → List ℕ → Type 0) (records : List (List ℕ) → List X) → IsFrontBy L records []
nothing_front L records [] after is = ([], records (pieces_of []), [], [], refl, tt, refl)
nothing_front L records (e ∷ before) after is = absurd (cc is)

-- nothing has come of a lane, no reply is pending and no byte was read
pub come_at_first : (f : LiveTerms) (lanes : List Waiting) (replies : List PendingReply) (h : Held) → AreFresh f.lanes lanes → replies ≡ [] → h ≡ nothing_held
    → HasCome (record { terms = f; events = []; given = replicate f.lanes []; brought = replicate f.lanes [] })
    (record { lanes = lanes; replies = replies; lines = h; stopped = None })
come_at_first f lanes replies h fresh none held =
    let n = f.lanes in
    rw (none, held) (record {
      waiting = record {
        count = fresh.count;
        rows = length-replicate n [];
        deliveries = length-replicate n [];
        each = λ l w at. let is = subst IsFresh (get_or_from_slice_get lanes l w w at) (fresh.each l w (slice_get_within lanes l w at)) in
            rw (empties_at {X = List ℕ} n l, empties_at {X = Plain} n l) (record {
              written = [];
              whole = sym is.deliveries;
              first = is.first;
              next = is.next;
              behind = omega arith;
              room = omega (arith, is.next);
            });
      };
      keeps = λ _. record {
        taken = [];
        done = [];
        left = [];
        lines = lines_are_pieces.first;
        replied = refl;
        pending = tt;
        numbers = λ i l. sym (ap length (empties_at {X = List ℕ} n l)) i;
        answers = λ _. ([], tt, refl);
      };
      stands = λ _. record {
        prompt = nothing_prompt (IsReplyTo f) (replies_in f);
        front = nothing_front (IsReplyTo f) (replies_in f);
        ended = λ is. cc;
        answered = λ is. cc;
      };
    })

-- a hub that did not begin tells no fault of a wire
no_wire_fault : (f : ServeFault) → (live_fault f ≢ fault.ReadFault) × (live_fault f ≢ fault.WriteFault)
no_wire_fault serve.NoThread = (λ e. cc, λ e. cc)
no_wire_fault serve.NoMemory = (λ e. cc, λ e. cc)
no_wire_fault serve.BadCount = (λ e. cc, λ e. cc)

-- what a live input leaves of its wire if it has not begun
pub lived_nothing : {W : Type 0} (t : LiveTerms) (did : W → W → List Event → Type 0) (read_failed write_failed : W → Bool) (at_end : W → Type 0)
    (wire after : W) (f : ServeFault) → did wire wire [] → after ≡ wire → Lived t did read_failed write_failed at_end wire after (Err (live_fault f))
lived_nothing t did read_failed write_failed at_end wire after f fresh same = let no = no_wire_fault f in record {
  events = [];
  were_done = subst (λ w. did wire w []) (sym same) fresh;
  prompt = nothing_prompt (IsReplyTo t) (replies_in t);
  front = nothing_front (IsReplyTo t) (replies_in t);
  ok = tt;
  cut = λ err. absurd (no.0 (cc err));
  read = λ first. (λ err. absurd (no.0 (cc err)), λ failed. absurd (cc (first, failed, ap read_failed same)));
  write = λ first. (λ err. absurd (no.1 (cc err)), λ failed. absurd (cc (first, failed, ap write_failed same)));
}

-- ---- the end

-- what was brought of a row that was given is its delivery
pub are_of_rows : (p : Past) → ServedByPlace → AreServedFirst p.terms.year p.given p.brought → AreOfRows p
are_of_rows p law first lane number widths x got came =
    let year = p.terms.year in
    let rows = get_or p.given lane [] in
    let rest = first lane in
    let there : slice_get (get_or (served year p.given) lane []) number ≡ Some x =
    ap (λ xs. slice_get xs number) (sym rest.1) ∙ got_more (get_or p.brought lane []) rest.0 number x came in
    let same : x ≡ plain_of lane number year widths = same_Some _ _ (sym there ∙ (law year p.given lane number).2 (slice_get_within rows number widths got)
    ∙ ap (λ ws. Some (plain_of lane number year ws)) (get_or_from_slice_get rows number widths [] got)) in
    (ap (λ (y : Plain). y.widths) same, ap (λ (y : Plain). y.year) same)

-- at the end of the input all pieces are answered
pub all_answered : (p : Past) (lanes : List Waiting) (rs : List PendingReply) (h : Held) → KeepsReplies p lanes rs h → AreOfRows p → rs ≡ [] → held_line h ≡ None
    → h.has_ended ≡ true → AnswersBy (IsReplyTo p.terms) (replies_in p.terms (pieces_of (was_read p.events))) (was_written p.events)
all_answered p lanes rs h k are empty none ended =
    let meant = line_meant p.terms.lanes in
    let last : replies_in p.terms (k.taken ++ [] ∷ []) ≡ replies_in p.terms k.taken =
    replies_more meant k.taken ([] ∷ []) (counts p.given) k.numbers ∙ append-nil (replies_in p.terms k.taken) in
    let whole : replies_in p.terms (pieces_of (was_read p.events)) ≡ replies_in p.terms k.taken = ⊎_elim
    (λ (e : pieces_of (was_read p.events) ≡ k.taken). ap (replies_in p.terms) e)
    (λ (e : pieces_of (was_read p.events) ≡ k.taken ++ [] ∷ []). ap (replies_in p.terms) e ∙ last)
    (lines_are_pieces.ended (was_read p.events) k.taken h k.lines none ended) in
    rw (whole, all_done k empty) (k.answers are)

-- what it is to be finished: the type writes the parts of `is_finished` (specs/inner/Finish) out, since the cases are told apart by them
pub finished_parts : (ended : Bool) (held : Option (List ℕ)) (replies : List PendingReply) (stopped : Option LiveFault)
    → (ended && (is_none held && (nat_eq (length replies) 0 && is_none stopped))) ≡ true → (ended ≡ true) × (held ≡ None) × (replies ≡ []) × (stopped ≡ None)
finished_parts true None replies None is = (refl, refl, nil_from_length replies (eqb-true (length replies) 0 (and_parts (nat_eq (length replies) 0) true is).0), refl)
finished_parts true None replies (Some fault) is = cc (and_parts (nat_eq (length replies) 0) false is).1
finished_parts true (Some line) replies stopped is = cc
finished_parts false held replies stopped is = cc

-- if bringing never fails, no delivery was lost (`IsKept`)
pub kept_if_never : {S B : Type 0} → (B → ⊥) → (e : Ended S B) → IsKept e
kept_if_never never Done = tt
kept_if_never never NoMemory = tt
kept_if_never never (WaitFailed f) = tt
kept_if_never never (BringFailed f) = absurd (never f)
