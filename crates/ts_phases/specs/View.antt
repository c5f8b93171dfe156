-- What contracts see of a transaction beside its phase: its two sides, each a link with the bytes that wait
-- between it and the transaction, and what was queued for the client (Developer's Guide, "HTTP Hooks and
-- Transactions").
use Rattle.std.specs.Prelude.{ℕ, ◌≤◌, List, [], Bool, true, false, Option, Some, None, ⊤}
use Rattle.ts_link.specs.Counts.{Rose}
use Rattle.ts_link.specs.Link.{Look}
use Rattle.ts_link.specs.declared.link.Link as link
use Rattle.ts_upstream.specs.declared.upstream.Upstream as upstream
use Rattle.ts_upstream.specs.declared.upstream.Uploaded.{Uploaded}
use Rattle.ts_phases.specs.declared.parts.Peer.{Peer}
use Rattle.ts_phases.specs.declared.parts.Sent.{Sent}
use Rattle.ts_phases.specs.declared.parts.Core.{Core}

-- one side of a transaction
pub record LinkSide : Type 0 where
  pub look : Look  -- its link
  pub base : ℕ  -- how many faults the link had met when the transaction was made
  pub inbox : List ℕ  -- what the link gave that was not used yet
  pub outbox : List ℕ  -- what waits for the link

-- a transaction without its phase, so that a fact on it outlives a change of phase
pub record View : Type 0 where
  pub client : LinkSide
  pub dialed : Bool  -- there is an origin
  pub origin : LinkSide
  pub sent : Sent

-- the link has not forgotten a fault
abbrev pub HasCount : LinkSide → Type 0
HasCount s = s.base ≤ s.look.faults

-- the link failed while the transaction held it
abbrev pub HasFailed : LinkSide → Type 0
HasFailed s = Rose s.base s.look.faults

-- the side of no link
abbrev pub no_side : LinkSide
no_side = record {
  look = record {
    given = [];
    left = [];
    taken = [];
    source = [];
    name = 0;
    reads = 0;
    writes = 0;
    faults = 0;
    waits = 0;
    agains = Some 0;
    plan = None;
    carried = [];
    uploaded = true;
    before = ([], []);
  };
  base = 0;
  inbox = [];
  outbox = [];
}

module _ {L : Type 0} where
  abbrev pub side : (L → Look) → Peer L → LinkSide
  side look p = record { look = look p.link; base = p.base; inbox = p.inbox; outbox = p.outbox }

  abbrev pub side_if : (L → Look) → Option (Peer L) → LinkSide
  side_if look None = no_side
  side_if look (Some p) = side look p

  abbrev pub is_dialed : Option (Peer L) → Bool
  is_dialed None = false
  is_dialed (Some p) = true

  -- calls of a link on the origin's, if there is one
  abbrev pub GoesIf : (L → L → Type 0) → Option (Peer L) → Option (Peer L) → Type 0
  GoesIf goes None None = ⊤
  GoesIf goes None (Some q) = ⊥
  GoesIf goes (Some p) None = ⊥
  GoesIf goes (Some p) (Some q) = goes p.link q.link

  -- whichever link it still was, it still is
  abbrev pub StaysLink : (L → L → Type 0) → L → L → Type 0
  StaysLink still old new = (l : L) → still l old → still l new

  -- it is still this link, if there is one
  abbrev pub StillIf : (L → L → Type 0) → Option L → Option (Peer L) → Type 0
  StillIf still None None = ⊤
  StillIf still None (Some p) = ⊥
  StillIf still (Some l) None = ⊥
  StillIf still (Some l) (Some p) = still l p.link

  abbrev pub StaysLinkIf : (L → L → Type 0) → Option (Peer L) → Option (Peer L) → Type 0
  StaysLinkIf still old new = (l : Option L) → StillIf still l old → StillIf still l new

  -- the origin's link refuses the upload of this list, if there is one
  abbrev pub refuses_if : (L → List ℕ → Type 0) → Option (Peer L) → List ℕ → Type 0
  refuses_if refuses None c = ⊥
  refuses_if refuses (Some p) c = refuses p.link c

  -- how much upload the two links have left: none, if there is no origin
  abbrev pub upload_told : {C : Type 0} → (C → L → Option ℕ) → C → Option (Peer L) → Option ℕ
  upload_told left c None = Some 0
  upload_told left c (Some p) = left c p.link

  -- one call of `upload` led from the first two links to the last two, if there is an origin
  abbrev pub UploadIf : {C : Type 0} → (C → L → C → L → Uploaded → Type 0)
      → C → Option (Peer L) → C → Option (Peer L) → Uploaded → Type 0
  UploadIf once c None d None answer = ⊤
  UploadIf once c None d (Some q) answer = ⊥
  UploadIf once c (Some p) d None answer = ⊥
  UploadIf once c (Some p) d (Some q) answer = once c p.link d q.link answer

  -- the links of the two sides belong together
  abbrev pub PairIf : {C : Type 0} → (C → L → Type 0) → C → Option (Peer L) → Type 0
  PairIf paired c None = ⊤
  PairIf paired c (Some p) = paired c p.link

module _ {C O : Type 0} where
  abbrev pub view_of : link.Ghosts C → link.Ghosts O → Core C O → View
  view_of client origin t = record {
    client = side client.look t.client;
    dialed = is_dialed t.origin;
    origin = side_if origin.look t.origin;
    sent = t.sent;
  }

  -- the origin's link refuses the upload of this client
  abbrev pub OriginRefuses : link.Ghosts C → upstream.Ghosts O C → Core C O → Type 0
  OriginRefuses client pair t = refuses_if pair.refuses t.origin (client.look t.client.link).source

  -- the two links belong together
  abbrev pub IsPaired : upstream.Ghosts O C → Core C O → Type 0
  IsPaired pair t = PairIf pair.paired t.client.link t.origin

  -- how much upload the two links have left
  abbrev pub upload_of : upstream.Ghosts O C → Core C O → Option ℕ
  upload_of pair t = upload_told pair.upload_left t.client.link t.origin

  -- one call of `upload`, with this answer, led from the links of one to those of the other
  abbrev pub IsOneUpload : upstream.Ghosts O C → Core C O → Core C O → Uploaded → Type 0
  IsOneUpload pair t u = UploadIf pair.one_upload t.client.link t.origin u.client.link u.origin
