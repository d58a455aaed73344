-- The lines of the report, entry by entry.
use Rattle.std.specs.Prelude.{ℕ, List, ◌∷◌, [], ◌++◌, codes, flat_map}
use Rattle.std.specs.Fmt.{decimal}
use Rattle.fs_model.specs.declared.claim.Claim.{Claim}
use Rattle.fs_model.specs.declared.claim.Claim.TheVariants as claims
use Rattle.fs_model.specs.declared.claim.Evidence.{Evidence}
use Rattle.fs_model.specs.declared.claim.Evidence.TheVariants as evidence
use Rattle.fs_model.specs.declared.entry.Entry.{Entry}
use Rattle.fs_model.specs.declared.entry.Entry.TheVariants as entries
use Rattle.fs_model.specs.declared.fault.Cause.{Cause}
use Rattle.fs_model.specs.declared.fault.Cause.TheVariants as causes
use Rattle.fs_model.specs.declared.fault.Fault.{Fault}
use Rattle.fs_model.specs.declared.fault.Fault.TheVariants as faults
use Rattle.fs_model.specs.declared.record.AnyRec.{AnyRec}
use Rattle.fs_model.specs.declared.record.AnyRec.TheVariants as recs
use Rattle.fs_model.specs.declared.unit.Unit.{Unit as ScrubUnit}
use Rattle.fs_model.specs.declared.verdict.Reason.{Reason}
use Rattle.fs_model.specs.declared.verdict.Reason.TheVariants as reasons
use Rattle.fs_model.specs.declared.verdict.Verdict.{Verdict}
use Rattle.fs_model.specs.declared.verdict.Verdict.TheVariants as verdicts
use Rattle.ino_recs.specs.declared.chunk.InoRec.{InoRec}
use Rattle.rmap_recs.specs.Words.{offset_of}
use Rattle.sblock.specs.declared.kind.Kind.{Kind}
use Rattle.sblock.specs.declared.kind.Kind.TheVariants as kinds
use Rattle.span_recs.specs.declared.span.SpanRec.{SpanRec}
use Rattle.run_text.specs.Lines.{line_from, spaced}
use Rattle.run_text.specs.Names.{kind_name, unit_name, block_fault_name, core_fault_name, fork_fault_name, counter_name}
use Rattle.run_text.specs.Owners.{owner_name, flag_letters}
use Rattle.run_text.specs.Masks.{mask_digits}

-- ---- records

-- the kind that a record is of
abbrev pub kind_of_rec : AnyRec → Kind
kind_of_rec (recs.Bno rec) = kinds.Bno
kind_of_rec (recs.Cnt rec) = kinds.Cnt
kind_of_rec (recs.Rmap rec) = kinds.Rmap
kind_of_rec (recs.Refc rec) = kinds.Refc
kind_of_rec (recs.Ino rec) = kinds.Ino
kind_of_rec (recs.Fino rec) = kinds.Fino

abbrev pub span_words : SpanRec → List (List ℕ)
span_words rec = decimal rec.start ∷ decimal rec.count ∷ []

-- first inode, hole mask, inodes, free inodes, and the mask of the free ones
abbrev pub ino_words : InoRec → List (List ℕ)
ino_words rec = decimal rec.startino ∷ decimal rec.holemask ∷ decimal rec.count ∷ decimal rec.freecount ∷ mask_digits rec.free ∷ []

-- a record's numbers: start and count first, then what its kind has besides
abbrev pub rec_words : AnyRec → List (List ℕ)
rec_words (recs.Bno rec) = span_words rec
rec_words (recs.Cnt rec) = span_words rec
rec_words (recs.Rmap rec) = decimal rec.start ∷ decimal rec.count ∷ owner_name rec.owner ∷ decimal (offset_of rec.word) ∷ flag_letters rec.word ∷ []
rec_words (recs.Refc rec) = decimal rec.start ∷ decimal rec.count ∷ decimal rec.refcount ∷ []
rec_words (recs.Ino rec) = ino_words rec
rec_words (recs.Fino rec) = ino_words rec

-- ---- faults

abbrev pub fault_words : ScrubUnit → Fault → List (List ℕ)
fault_words unit (faults.Block kind block fault) = kind_name kind ∷ codes "block" ∷ decimal block ∷ block_fault_name fault ∷ []
fault_words unit (faults.Missing rec) = kind_name (kind_of_rec rec) ∷ codes "missing" ∷ rec_words rec
fault_words unit (faults.Extra rec) = kind_name (kind_of_rec rec) ∷ codes "extra" ∷ rec_words rec
fault_words unit (faults.Counter name found wanted) = unit_name unit ∷ codes "counter" ∷ counter_name name ∷ decimal found ∷ decimal wanted ∷ []

abbrev pub cause_words : Cause → List (List ℕ)
cause_words (causes.Block block fault) = codes "block" ∷ decimal block ∷ block_fault_name fault ∷ []
cause_words causes.Missing = codes "missing" ∷ []
cause_words causes.Overlap = codes "overlap" ∷ []
cause_words causes.Owner = codes "owner" ∷ []
cause_words (causes.Short have need) = codes "short" ∷ decimal have ∷ decimal need ∷ []
cause_words (causes.Large blocks) = codes "large" ∷ decimal blocks ∷ []

-- ---- verdicts

abbrev pub claim_text : Claim → List ℕ
claim_text claims.Heads = codes "heads"
claim_text claims.Log = codes "log"
claim_text claims.List = codes "list"
claim_text (claims.Tree kind) = codes "tree-" ++ kind_name kind
claim_text claims.Reserve = codes "reserve"
claim_text claims.Limbo = codes "limbo"
claim_text claims.Chunk = codes "chunk"
claim_text (claims.Data ino) = spaced (codes "data") (decimal ino)
claim_text (claims.Attr ino) = spaced (codes "attr") (decimal ino)
claim_text (claims.ForkTree ino) = spaced (codes "forktree") (decimal ino)
claim_text claims.Staging = codes "staging"

abbrev pub evidence_words : Evidence → List (List ℕ)
evidence_words (evidence.BadFork ino fault) = codes "badfork" ∷ decimal ino ∷ fork_fault_name fault ∷ []
evidence_words (evidence.BadChunk block fault) = codes "badchunk" ∷ decimal block ∷ core_fault_name fault ∷ []
evidence_words (evidence.BadTree kind block) = codes "badtree" ∷ kind_name kind ∷ decimal block ∷ []
evidence_words (evidence.Overlap block first second) = codes "overlap" ∷ decimal block ∷ claim_text first ∷ claim_text second ∷ []
evidence_words (evidence.Later kind block) = codes "later" ∷ kind_name kind ∷ decimal block ∷ []

abbrev pub reason_words : Reason → List (List ℕ)
reason_words (reasons.Space reserve need) = codes "space" ∷ decimal reserve ∷ decimal need ∷ []
reason_words (reasons.Contradiction shown) = evidence_words shown
reason_words (reasons.TurnLimit turns) = codes "turns" ∷ decimal turns ∷ []

abbrev pub verdict_words : Verdict → List (List ℕ)
verdict_words verdicts.Good = codes "good" ∷ []
verdict_words (verdicts.Faulty count) = codes "faulty" ∷ decimal count ∷ []
verdict_words verdicts.Rebuilt = codes "rebuilt" ∷ []
verdict_words (verdicts.Skipped group unit) = codes "skipped" ∷ decimal group ∷ unit_name unit ∷ []
verdict_words (verdicts.GaveUp reason) = codes "gaveup" ∷ reason_words reason

-- ---- entries

-- Faults, marks and verdicts have a line; what changed the file system has none.
unfoldable pub line_of : Entry → List ℕ
line_of (entries.Fault group unit fault) = line_from (decimal group ∷ fault_words unit fault)
line_of (entries.Marked group kind cause) = line_from (decimal group ∷ kind_name kind ∷ codes "marked" ∷ cause_words cause)
line_of (entries.Verdict group unit verdict) = line_from (decimal group ∷ unit_name unit ∷ verdict_words verdict)
line_of entry = []

-- the lines of a journal, in its order
unfoldable pub report_of : List Entry → List ℕ
report_of entries = flat_map line_of entries
