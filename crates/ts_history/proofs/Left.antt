-- What is known of a transaction of a session once it has ended: of which connection its span is, at which
-- place, and that its client's faults were counted from its making on.
use Rattle.std.proofs.Common.{◌≡◌, ◌≤◌, ◌∙◌, ℕ, List, ◌++◌, sym, ap, arith}
use Rattle.std.specs.List.{concat}
use Rattle.ts_config.specs.declared.setup.Setup.{Setup}
use Rattle.ts_config.specs.declared.setup.TransformLine.{TransformLine}
use Rattle.ts_history.specs.Sessions.{IsDoneInSession, StandsAt}
use Rattle.ts_journal.specs.Log.{Log}
use Rattle.ts_layers.specs.Links.{watched_look}
use Rattle.ts_layers.specs.Sessions.{shown}
use Rattle.ts_link.specs.declared.link.Link as link
use Rattle.ts_phases.specs.Causes.{HasCounts}
use Rattle.ts_phases.specs.View.{View}
use Rattle.ts_session.specs.Course.{before_client}
use Rattle.ts_session.specs.declared.course.Course.{Course}
use Rattle.ts_session.specs.declared.spanned.Spanned.{Spanned}
use Rattle.ts_transform.specs.declared.transform.Transform as transform
use Rattle.ts_txn.specs.Course.{StandsForCauseOn}
use Rattle.ts_txn.specs.declared.course.Course as txn_course
use Rattle.ts_txn.specs.declared.course.Course.TheVariants as K
use Rattle.ts_txn.specs.declared.making.TxnParts.{TxnParts}
use Rattle.ts_txn.specs.declared.retired.Noted.{Noted}

-- wherever a transaction is on its course, no fault was forgotten
has_counts : {Q : Type 0} (v : View) (course : txn_course.Course Q) → StandsForCauseOn v course → HasCounts v
has_counts v (K.Phased p) stands = stands.counts
has_counts v (K.Relaying r) counts = counts
has_counts v (K.Finishing end) (counts, cause) = counts

module _ {C O P : Type 0} (client : link.Ghosts C) (origin : link.Ghosts O)
    (stage : transform.Ghosts P TransformLine) (setup : Setup) (plugins_at : ℕ)
    (parts : TxnParts (Course C) (Spanned O)) (journal : Log)
    (done : IsDoneInSession client origin stage setup plugins_at parts journal) where
  -- the span that is left is of the connection, and at the place, of the one that the transaction was made
  -- with
  pub before_left : (shown client parts.client).before ≡ (shown client done.ends.client).before
  before_left =
      let exchanges = done.leaves.exchanges in
      let same = exchanges.exchanges.keeps in
      let kept : (watched_look (shown client) exchanges.shown.client.client).before
      ≡ (watched_look (shown client) exchanges.layered.client.client).before = same.client_is.before in
      ap (λ (p : TxnParts (Course C) (Spanned O)). (shown client p.client).before) (sym done.parts_are)
      ∙ ap (λ (s : Course C). (shown client s).before) exchanges.inside.client
      ∙ kept ∙ ap (λ (s : Course C). (shown client s).before) exchanges.over.client.inside

  pub place_left : parts.client.place ≡ done.ends.client.place
  place_left =
      let exchanges = done.leaves.exchanges in
      let still = exchanges.exchanges.keeps.client_still in
      ap (λ (p : TxnParts (Course C) (Spanned O)). p.client.place) (sym done.parts_are)
      ∙ ap (λ (s : Course C). s.place) exchanges.inside.client
      ∙ still.0.place ∙ ap (λ (s : Course C). s.place) exchanges.over.client.inside

  came_left : before_client client.look parts.client ≡ before_client client.look done.ends.client
  came_left =
      let exchanges = done.leaves.exchanges in
      let still = exchanges.exchanges.keeps.client_still in
      ap (λ (p : TxnParts (Course C) (Spanned O)). before_client client.look p.client) (sym done.parts_are)
      ∙ ap (λ (s : Course C). before_client client.look s) exchanges.inside.client
      ∙ ap (λ (c : C). (client.look c).before) still.0.begun
      ∙ ap (λ (s : Course C). before_client client.look s) exchanges.over.client.inside

  -- so it stands behind the transactions behind which that one stood
  pub left_stands : (number : ℕ) (notes : List (Noted O))
      → StandsAt client origin stage setup plugins_at number notes done.ends.client
      → StandsAt client origin stage setup plugins_at number notes parts.client
  left_stands number notes stands = record {
    requests = stands.requests;
    responses = stands.responses;
    history = stands.history;
    place_is = place_left ∙ stands.place_is;
    gave = ap (λ (b : List ℕ × List ℕ). b.0) before_left ∙ stands.gave
        ∙ ap (λ (b : List ℕ × List ℕ). b.0 ++ concat stands.requests) (sym came_left);
    took = ap (λ (b : List ℕ × List ℕ). b.1) before_left ∙ stands.took
        ∙ ap (λ (b : List ℕ × List ℕ). b.1 ++ concat stands.responses) (sym came_left);
  }

  -- its client has not fewer faults than when the transaction was made
  pub counts_left : parts.client_faults ≤ (shown client parts.client).faults
  counts_left =
      let exchanges = done.leaves.exchanges in
      let apart = done.leaves.apart in
      let counts = (has_counts _ done.txn.course done.between.between.sound.stands.causes).client in
      let link_is = ap (λ c. (watched_look (shown client) c.client).faults) apart.client in
      let inside = ap (λ (s : Course C). (shown client s).faults) exchanges.inside.client in
      let left : (shown client done.left.parts.client).faults ≡ (shown client parts.client).faults =
      ap (λ (p : TxnParts (Course C) (Spanned O)). (shown client p.client).faults) done.parts_are in
      let faults = ap (λ (p : TxnParts (Course C) (Spanned O)). p.client_faults) done.parts_are in
      omega (
        arith,
        counts,
        link_is,
        inside,
        left,
        faults,
        exchanges.inside.client_faults,
        apart.client_faults,
      )
