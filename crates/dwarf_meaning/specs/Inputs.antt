-- A fresh evaluation, the inputs of a state, and its settings.
use Rattle.std.specs.Prelude.{ℕ, ◌≡◌, [], Option, None}
use Rattle.dwarf_base.specs.Reads.{Text}
use Rattle.dwarf_meaning.specs.Requests.{Answer, Settings, Input}
use Rattle.dwarf_meaning.specs.Stores.{Setup}
use Rattle.dwarf_meaning.specs.Refusals.{Never}
use Rattle.dwarf_meaning.specs.Meaning.{fresh_store}
use Rattle.dwarf_meaning.specs.Rest.{State, Status, Start}
use Rattle.dwarf_meaning.specs.Steps.{empty_log}

-- a fresh evaluation of a text: nothing is set, and nothing is done
abbrev pub fresh_state : Setup → Text → State
fresh_state setup text = record {
  status = Start None;
  setup = setup;
  text = text;
  place = 0;
  callers = [];
  store = fresh_store empty_log.now Never;
  decodings = 0;
}

-- an answer, with the current settings
abbrev pub input_of : State → Answer → Input
input_of x answer = record { settings = x.store.settings; answer = answer }

-- the setup and the settings stay
pub record Keeps (old new : State) : Type 0 where
  pub setup : new.setup ≡ old.setup
  pub settings : new.store.settings ≡ old.store.settings

-- the same state with this status
abbrev pub with_status : Status → State → State
with_status status x = record x { status = status }

-- the same state with these settings
abbrev pub with_settings : Settings → State → State
with_settings settings x = record x { store = record x.store { settings = settings } }

-- the same state with this object address
abbrev pub with_object : Option ℕ → State → State
with_object address x = with_settings (record x.store.settings { object_address = address }) x

-- the same state with this maximum
abbrev pub with_maximum : ℕ → State → State
with_maximum maximum x = with_settings (record x.store.settings { maximum = maximum }) x
