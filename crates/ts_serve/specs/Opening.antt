-- A server as it is opened, before anything was done in it.
use Rattle.std.specs.Prelude.{◌≡◌, ℕ, List, [], All, Bool, false, replicate}
use Rattle.ts_journal.specs.State.{State}
use Rattle.ts_journal.specs.declared.slotted.Slotted.{Ghosts}
use Rattle.ts_group.specs.declared.action.Named.{Named}
use Rattle.ts_group.specs.declared.either.Either.{Either}
use Rattle.ts_group.specs.declared.either.EitherTag.{EitherTag}
use Rattle.ts_group.specs.declared.group.Group.{Group}
use Rattle.ts_group.specs.Either.{EitherFits, EitherSound, tag_of}
use Rattle.ts_slot.specs.Limits.{whole_share}
use Rattle.ts_slot.specs.Words.{tags_of, view}
use Rattle.ts_thread.specs.Desks.{IsDeskOf}
use Rattle.ts_thread.specs.Tags.{GroupsFit}
use Rattle.ts_thread.specs.Threads.{CanSplit, HasHadTurns}
use Rattle.ts_thread.specs.declared.TheConstants.{MOST_THREADS}
use Rattle.ts_serve.specs.declared.connection.Connection.TheVariants.{Free}
use Rattle.ts_serve.specs.declared.acceptor.Acceptor.{Acceptor}
use Rattle.ts_serve.specs.declared.acceptor.Listening.TheVariants.{Open}
use Rattle.ts_serve.specs.declared.acceptor.TheConstants.{PLACES}
use Rattle.ts_serve.specs.declared.server.Server.{Server}
use Rattle.ts_serve.specs.declared.place.Place.{Place}
use Rattle.ts_serve.specs.Places.{PlaceFits, PlaceSound}

-- the acceptor before anybody came: nobody is in the row, and so many may come
pub record IsNewAcceptor (most : ℕ) (acceptor : Acceptor) : Type 0 where
  pub row : acceptor.row.items ≡ replicate PLACES Free
  pub came : acceptor.came ≡ 0
  pub most_is : acceptor.most ≡ most
  pub listening : acceptor.listening ≡ Open
  pub next : acceptor.next ≡ 0

-- The server has these tags, and a desk of its own that has the whole share, which can be split among the
-- most threads, and holds no group.
pub record IsNewServer {X G T : Type 0} {d : Ghosts X G T} (tags : List G) (server : Server X G T d)
    : Type 0 where
  pub tags_are : tags_of server.slots ≡ tags
  pub desk : IsDeskOf server.slots server.queue server.desk
  pub share : (view server.desk.seat).share ≡ whole_share
  pub idle : (view server.desk.seat).held ≡ []
  pub splits : CanSplit MOST_THREADS server.desk.seat server.desk.pass

module _ {W T A P U : Type 0} (Fits : T → W → Type 0) (Keeps : A → T → Type 0)
    (Sound : W → State → List Named → Type 0) (Other : U → P → Type 0)
    (SoundOther : P → State → List Named → Type 0) (only_asked is_first : U → Bool) where
  -- all groups of a server fit their tags
  abbrev pub FitServer : {Q R X : Type 0} → List (EitherTag A U)
      → List (Group (Either (Place W) P) Q R (EitherTag A U) X) → Type 0
  FitServer tags groups =
      GroupsFit (EitherFits (PlaceFits Fits Keeps) Other) (EitherSound (PlaceSound Sound) SoundOther)
      (tag_of (λ terms. false) only_asked) (tag_of (λ terms. false) is_first) tags groups

  -- and none has had a turn
  pub record AreNewGroups {Q R X : Type 0} (tags : List (EitherTag A U))
      (groups : List (Group (Either (Place W) P) Q R (EitherTag A U) X)) : Type 0 where
    pub fit : FitServer tags groups
    pub new : All (HasHadTurns 0) groups
