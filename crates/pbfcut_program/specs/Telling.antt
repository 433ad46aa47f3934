-- What a command says: on a screen, on standard error, or on a terminal.
use Rattle.std.specs.Prelude.{◌≡◌, ◌⊎◌, ℕ, List, [], ◌∷◌, ◌++◌, Bool, true, Option, None, Some, Result, Ok, Err}
use Rattle.osm_text.specs.Digests.{digest_line}
use Rattle.pbf_frame.specs.declared.stop.Stop.TheVariants as stop
use Rattle.pbfcut_cli.specs.declared.endings.Ending.{Ending}
use Rattle.pbfcut_cli.specs.declared.endings.Ending.TheVariants as ending
use Rattle.pbfcut_program.specs.declared.host.PrintFault.{PrintFault}
use Rattle.pbfcut_program.specs.declared.host.PrintFault.TheVariants as line
use Rattle.pbfcut_program.specs.declared.host.Screen.{Screen}
use Rattle.pbfcut_program.specs.Events.{Event, printed, told, advised, then_all}
use Rattle.pbfcut_program.specs.Fails.{Each}

-- ---- a command that fails

-- nothing is said
abbrev pub Silent : Event → Type 0
Silent (printed screen text fault) = ⊥
Silent (told text) = ⊥
Silent advised = ⊥
Silent _ = Unit {0}

-- no line goes to standard error; or, with `--digests`, one of a digest: that of what was read of an IN that is refused
abbrev pub TellsRefusal : (digests : Bool) → List Event → Type 0
TellsRefusal digests events = (events ≡ []) ⊎ ((digest name : List ℕ) × (digests ≡ true) × (events ≡ told (digest_line digest name) ∷ []))

-- that comes last, and nothing else is said
pub record SaysLittle (digests : Bool) (events : List Event) : Type 0 where
  pub before : List Event
  pub last : List Event
  pub happened : events ≡ before ++ last
  pub silent : Each Silent before
  pub tells : TellsRefusal digests last

-- how a command ends if a line isn't printed whole
abbrev pub ending_of_line : PrintFault → Ending
ending_of_line line.Failed = ending.Stopped stop.Write
ending_of_line line.Closed = ending.Closed

-- this line isn't printed whole, for this; or there is no memory for it
abbrev pub IsUnprinted : Screen → (text : List ℕ) → Ending → List Event → Type 0
IsUnprinted screen text how events = ((fault : PrintFault) × (events ≡ printed screen text (Some fault) ∷ []) × (how ≡ ending_of_line fault))
    ⊎ ((events ≡ []) × (how ≡ ending.Stopped stop.Memory))

-- a command that would have ended well breaks off at a line that it can't print: all before it happened, and nothing after it
pub record BreaksOff (well : List Event → Type 0) (how : Ending) (events : List Event) : Type 0 where
  pub before : List Event
  pub screen : Screen
  pub text : List ℕ
  pub after : List Event
  pub last : List Event
  pub ends_well : well (before ++ printed screen text None ∷ after)
  pub happened : events ≡ before ++ last
  pub unprinted : IsUnprinted screen text how last

-- what a failed command says, where `well` is what holds of the events of one that ends well
abbrev pub IsSaid : (digests : Bool) → (well : List Event → Type 0) → Ending → List Event → Type 0
IsSaid digests well how events = SaysLittle digests events ⊎ BreaksOff well how events

-- ---- calls

-- lines are printed; or one of them can't be
abbrev pub Tells : {A : Type 0} → (before after : Option (List Event)) → List Event → Result A Ending → Type 0
Tells before after events (Ok _) = after ≡ then_all before events
Tells before after events (Err how) = (some : List Event) × (after ≡ then_all before some) × BreaksOff (λ all. all ≡ events) how some

-- what is shown is how a call ended, or that there was no memory to say more
pub record TellsQuietly (digests : Bool) (before after : Option (List Event)) (how shown : Ending) : Type 0 where
  pub events : List Event
  pub log : after ≡ then_all before events
  pub tells : TellsRefusal digests events
  pub shows : (shown ≡ how) ⊎ (shown ≡ ending.Stopped stop.Memory)
