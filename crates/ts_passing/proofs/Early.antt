-- What is sent of a body while its chain works: each step keeps it; and what stands at the two
-- ends of a body that has not ended: the chain finished early, or it rests.
use Rattle.std.proofs.Common.{◌≡◌, ℕ, ◌⊎◌, inl, inr, List, [], ◌∷◌, ◌++◌, take, Bool, true, false, Option}
use Rattle.std.proofs.Common.{Some, None, is_none, cond, refl, sym, ap, subst, ◌∙◌, append_assoc}
use Rattle.std.specs.Prelude.{not}
use Rattle.std.specs.Bool.{OnTrue}
use Rattle.std.proofs.lemmas.Bool.{OnTrue_from, true≢false}
use Rattle.std.proofs.lemmas.List.{append-nil}
use Rattle.std.proofs.lemmas.Option.{same_Some}
use Rattle.ts_config.specs.declared.setup.TransformLine.{TransformLine}
use Rattle.ts_config.specs.Bodies.{compose_lines, is_early, so_far, soon_lines}
use Rattle.ts_config.proofs.Early.{tells}
use Rattle.ts_transform.specs.declared.pump.Part.{Part}
use Rattle.ts_transform.specs.declared.pump.Stage.{Stage}
use Rattle.ts_transform.specs.Law.{behind}
use Rattle.ts_transform.specs.Stage.{rest_of}
use Rattle.ts_transform.specs.Flow.{AreSettled, ChainState, IsFinished, KeepsFlow, Rests, TakesAway}
use Rattle.ts_transform.specs.Flow.{client_wait, first_wants, flow, flow_from, given_if, last_ended}
use Rattle.ts_transform.specs.Flow.{soon_flow, wants}
use Rattle.ts_transform.proofs.Boundaries.{flow_from-finished}
use Rattle.ts_transform.proofs.Resting.{ended_soon, told_early}
use Rattle.ts_transform.proofs.Soon.{given_soon, taken_settled, taken_soon}
use Rattle.ts_passing.specs.Sends.{FinishesEarly, Sends, StaysShort}

-- ---- what a chain has given so far

behind_assoc : (a b : List ℕ) (o : Option (List ℕ)) → behind (a ++ b) o ≡ behind a (behind b o)
behind_assoc a b None = refl
behind_assoc a b (Some w) = ap (λ (x : List ℕ). Some x) (append_assoc a b w)

pub behind_none : (o : Option (List ℕ)) → behind [] o ≡ o
behind_none None = refl
behind_none (Some w) = refl

-- what the stages have given does not depend on what stands before one that has ended
given_flow_at : {P : Type 0} (rest : P → List ℕ → List ℕ) (p : Option (Part P)) (first part z : List ℕ)
    → rest_of rest p (given_if (not (is_none p)) first part ++ z) ≡ rest_of rest p (first ++ (part ++ z))
given_flow_at rest None first part z = refl
given_flow_at rest (Some p) first part z = ap (rest_of rest (Some p)) (append_assoc first part z)

given_flow : {P : Type 0} (rest : P → List ℕ → List ℕ) (ss : List (Stage P)) (given : Bool) (first part z :
    List ℕ)
    → given ≡ false
    → flow_from rest ss (given_if (first_wants given ss) first part ++ z) ≡ flow_from rest ss (first ++ (part
    ++ z))
given_flow rest [] false first part z going = append_assoc first part z
given_flow rest [] true first part z going = absurd (true≢false going)
given_flow rest (s ∷ ss) given first part z going =
    ap (λ (w : List ℕ). flow_from rest ss (s.after ++ w)) (given_flow_at rest s.part first part z)

-- ---- each step keeps what is sent

module _ {P : Type 0} (rest : P → List ℕ → List ℕ) (soon : P → List ℕ → Option (List ℕ)) (lines : List
    TransformLine)
  where
    pub sends_kept : (read body : List ℕ) (c d : ChainState P) → KeepsFlow rest soon c d → d.given ≡ c.given
        → Sends rest soon lines read body c → Sends rest soon lines read body d
    sends_kept read body c d keeps same s = record {
      flows = λ z last.
          let before = subst (λ (g : Bool). OnTrue g (z ≡ [])) same last in
          ap (λ (x : List ℕ). body ++ x) (keeps.flow z before) ∙ s.flows z before;
      so = λ going z.
          let before : c.given ≡ false = sym same ∙ going in
          s.so before z ∙ ap (behind body) (sym (keeps.soon_too before z));
      settled = keeps.settled s.settled;
    }

    pub sends_taken : (read body piece : List ℕ) (n : ℕ) (c d : ChainState P) → TakesAway rest n c d
        → piece ≡ take n (client_wait c) → Sends rest soon lines read body c
        → Sends rest soon lines read (body ++ piece) d
    sends_taken read body piece n c d takes same s = record {
      flows = λ z last. append_assoc body piece (flow rest d z)
          ∙ ap (λ (x : List ℕ). body ++ (x ++ flow rest d z)) same
          ∙ ap (λ (x : List ℕ). body ++ x) (sym (takes.flow z))
          ∙ s.flows z (subst (λ (g : Bool). OnTrue g (z ≡ [])) takes.given last);
      so = λ going z. s.so (sym takes.given ∙ going) z
          ∙ ap (behind body) (taken_soon soon c.stages d.stages c.first d.first n takes.takes z
          ∙ ap (λ (x : List ℕ). behind x (soon_flow soon d z)) (sym same))
          ∙ sym (behind_assoc body piece (soon_flow soon d z));
      settled = taken_settled soon c.stages d.stages c.first d.first n takes.takes s.settled;
    }

    -- while the end was not given, whatever comes
    sends_all : (read body : List ℕ) (c : ChainState P) → c.given ≡ false → Sends rest soon lines read body c
        → (z : List ℕ) → body ++ flow rest c z ≡ compose_lines lines (read ++ z)
    sends_all read body c going s z =
        s.flows z (OnTrue_from c.given (z ≡ []) (λ given. absurd (true≢false (sym given ∙ going))))

    pub sends_given : (read body part : List ℕ) (c : ChainState P) (over : Bool) → c.given ≡ false
        → Sends rest soon lines read body c → Sends rest soon lines (read ++ part) body
        (record c { first = given_if (wants c) c.first part; given = over })
    sends_given read body part c over going s = record {
      flows = λ z last. ap (λ (x : List ℕ). body ++ x) (given_flow rest c.stages c.given c.first part z going)
          ∙ sends_all read body c going s (part ++ z) ∙ ap (compose_lines lines) (sym (append_assoc read part
          z));
      so = λ still z. ap (so_far lines) (append_assoc read part z) ∙ s.so going (part ++ z)
          ∙ ap (behind body) (sym (given_soon soon c.stages c.given c.first part z going));
      settled = s.settled;
    }

    -- the end is given, of a body that goes on nowhere
    pub sends_closed : (read body : List ℕ) (c : ChainState P) → c.given ≡ false → Sends rest soon lines read
        body c
        → Sends rest soon lines read body (record c { given = true })
    sends_closed read body c going s = record {
      flows = λ z last. sends_all read body c going s z;
      so = λ still z. absurd (true≢false still);
      settled = s.settled;
    }

    -- ---- the two ends of a body that has not ended

    early_by : (x : List ℕ) (b : Bool) (w : List ℕ) → None ≡ cond b None (Some w) → b ≡ true
    early_by x true w same = refl
    early_by x false w same = absurd (let wrong : ◌≡◌ {A = Option (List ℕ)} None (Some w) = same in cc)

    pub finished_early : (read body : List ℕ) (c : ChainState P) → c.given ≡ false → IsFinished c
        → Sends rest soon lines read body c → FinishesEarly lines read body
    finished_early read body c going ends s = record {
      early = λ z. early_by (read ++ z) (is_early lines (read ++ z)) (soon_lines lines (read ++ z))
          (sym (ap (behind body) (ended_soon soon c.stages c.given going ends.0 (c.first ++ z)))
          ∙ sym (s.so going z) ∙ tells lines (read ++ z));
      whole = λ z. sym (append-nil body)
          ∙ ap (λ (x : List ℕ). body ++ x) (sym (flow_from-finished rest c.stages c.given c.first (c.first ++
          z) ends.0
          ends.1 (λ given. absurd (true≢false (sym given ∙ going)))))
          ∙ sends_all read body c going s z;
    }

    short_by : (b : Bool) (w body : List ℕ) → Some (body ++ []) ≡ cond b None (Some w) → (b ≡ false) × (body ≡
        w)
    short_by true w body same = absurd (let wrong : ◌≡◌ {A = Option (List ℕ)} (Some (body ++ [])) None = same
        in cc)
    short_by false w body same = (refl, sym (append-nil body) ∙ same_Some (body ++ []) w same)

    pub stays_short : (read body : List ℕ) (c : ChainState P) → c.given ≡ false → soon_flow soon c [] ≡ Some
        []
        → Sends rest soon lines read body c → StaysShort lines read body
    stays_short read body c going rests s =
        let all : Some (body ++ []) ≡ cond (is_early lines read) None (Some (soon_lines lines read)) =
        sym (ap (behind body) rests) ∙ sym (s.so going [])
        ∙ ap (so_far lines) (append-nil read) ∙ tells lines read in
        let both = short_by (is_early lines read) (soon_lines lines read) body all in
        record { goes = both.0; sent = both.1 }

-- a chain that rests and has not finished has given just what its parts have written so far
pub rests_soon : {P : Type 0} (soon : P → List ℕ → Option (List ℕ))
    → ((p : P) (w : List ℕ) → soon p [] ≡ Some w → w ≡ []) → (c : ChainState P) → AreSettled soon c.stages
    → Rests c
    → (IsFinished c → ⊥) → c.given ≡ false → soon_flow soon c [] ≡ Some []
rests_soon soon silent c settled rests more going = by_end (told_early soon silent c settled going rests)
  where
    by_end : ((last_ended c.given c.stages ≡ true) × (soon_flow soon c [] ≡ None))
        ⊎ ((last_ended c.given c.stages ≡ false) × (soon_flow soon c [] ≡ Some [])) → soon_flow soon c [] ≡
        Some []
    by_end (inl (ended, none)) = absurd (more (ended, rests.wait))
    by_end (inr (goes, same)) = same
