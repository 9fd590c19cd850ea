-- What is proved of the run of a file, in the subject's words.
use Rattle.std.specs.Prelude.{◌≡◌, ℕ, ◌<◌, ◌≤◌, List, [], ◌∷◌, ◌++◌, length, Some, None, Ok, Err, Option, ◌≢◌}
use Rattle.tokens.specs.declared.fault.FaultKind.TheVariants.{TooLong, NoMagic}
use Rattle.steps.specs.declared.fault.Fault.{Fault}
use Rattle.steps.specs.declared.state.FileState.TheVariants as state
use Rattle.steps.specs.declared.state.Position.{Position}
use Rattle.steps.specs.declared.state.RecordAt.{RecordAt}
use Rattle.steps.specs.declared.state.Step.{Step}
use Rattle.steps.specs.Steps.{stepped}
use Rattle.checksum.specs.Ends.{magic}
use Rattle.runs.specs.Runs.{longest, unread, at_start, turn, Trail, more, done, broken, follow, walked, run}

-- these records stand one behind the other from the position p on, each read in the state and with the variables that the one
-- before it leaves, and q is the position behind the last of them
pub data Sequence (file : List ℕ) : Position → List RecordAt → Position → Type 0 where
  none : {p : Position} → Sequence file p [] p
  next : {p q : Position} {rs : List RecordAt} (s : Step) → (p.context.state ≢ state.Ended) → stepped file p ≡ Ok s → p.at < s.after.at → s.after.at ≤ length file → Sequence file s.after rs q → Sequence file p (s.found ∷ rs) q

-- the records of a run, and the fault that ended it, if one did
abbrev pub records_of : Trail → List RecordAt
records_of (more r t) = r ∷ records_of t
records_of done = []
records_of (broken f) = []

abbrev pub fault_of : Trail → Option Fault
fault_of (more r t) = fault_of t
fault_of done = None
fault_of (broken f) = Some f

-- a file that may be read: the magic, and not too many bytes
pub record Readable (file : List ℕ) : Type 0 where
  pub short : length file ≤ longest
  pub rest : List ℕ
  pub marked : file ≡ magic ++ rest

-- a whole file: its records follow one another from byte 13 on, and the last is END, behind which the file ends
pub record Whole (file : List ℕ) (rs : List RecordAt) : Type 0 where
  pub readable : Readable file
  pub after : Position
  pub sequence : Sequence file at_start rs after
  pub ended : after.context.state ≡ state.Ended
  pub last : after.at ≡ length file

-- a file that is at fault behind these records: too long, without magic, or with a record that cannot be read where it is due
pub data Faulty (file : List ℕ) : List RecordAt → Fault → Type 0 where
  long : longest < length file → Faulty file [] (unread TooLong)
  unmarked : length file ≤ longest → ((rest : List ℕ) → file ≢ magic ++ rest) → Faulty file [] (unread NoMagic)
  stuck : {rs : List RecordAt} {p : Position} {f : Fault} → Readable file → Sequence file at_start rs p → (p.context.state ≢ state.Ended) → stepped file p ≡ Err f → Faulty file rs f

-- what the run of a file says of it
abbrev pub Tells : List ℕ → List RecordAt → Option Fault → Type 0
Tells file rs None = Whole file rs
Tells file rs (Some f) = Faulty file rs f

-- a run without a fault is a whole file, and a run with one is a file that is at fault there
abbrev pub RunIsSequence : Type 0
RunIsSequence = (file : List ℕ) → Tells file (records_of (run file)) (fault_of (run file))

-- and each whole file, and each file at fault, is told by its run
abbrev pub SequenceIsRun : Type 0
SequenceIsRun = (file : List ℕ) (rs : List RecordAt) (f : Option Fault) → Tells file rs f → (records_of (run file) ≡ rs) × (fault_of (run file) ≡ f)

-- the records from a position on are its first step, and the records from there
abbrev pub RunUnfolds : Type 0
RunUnfolds = (file : List ℕ) (p : Position) → walked file p ≡ follow (turn file p) (walked file)
