-- The laws of frames. Assumes nothing.
--     ReadWritten     reading what was written gives the same record
--     WrittenRead     writing what was read gives the same octets
--     ReadCarried     what was read can be written
--     Examples         worked examples
use Rattle.std.specs.Prelude.{◌≡◌, ℕ, ◌<◌, true, List, [], ◌∷◌, map, replicate, Some, None, Ok, Err, Option, Result, slice_index}
use Rattle.words.specs.declared.message_kind.MessageKind.TheVariants.{Published}
use Rattle.words.specs.Records.{module_id, applicant_of}
use Rattle.words.specs.Heads.{head_of}
use Rattle.wire.specs.declared.fault.FrameFault.{FrameFault}
use Rattle.wire.specs.declared.fault.FaultCode.{FaultCode}
use Rattle.wire.specs.declared.fault.Layer.TheVariants.{Frame}
use Rattle.wire.specs.Faults.{fault_of, code}
use Rattle.wire.specs.Frames.{FrameV, module_registration, message}
use Rattle.wire.specs.Reads.{read}
use Rattle.wire.specs.Writes.{write, carried}

abbrev pub Octets : List ℕ → Type 0
Octets xs = (i : ℕ) → slice_index xs i < 256

abbrev pub ReadWritten : Type 0
ReadWritten = (v : FrameV) → carried v ≡ true → read (write v) ≡ Ok v

abbrev pub WrittenRead : Type 0
WrittenRead = (xs : List ℕ) (v : FrameV) → Octets xs → read xs ≡ Ok v → write v ≡ xs

abbrev pub ReadCarried : Type 0
ReadCarried = (xs : List ℕ) (v : FrameV) → Octets xs → read xs ≡ Ok v → carried v ≡ true

-- what is told of a fault
abbrev pub told : Result FrameV FrameFault → Option FaultCode
told (Ok v) = None
told (Err e) = Some (fault_of e)

-- port 4 of role 5 asks with query number 1 at time 0
abbrev pub asking : FrameV
asking = module_registration 0 1 (applicant_of 5 4)

abbrev pub asking_octets : List ℕ
asking_octets = 19 ∷ 1 ∷ 0 ∷ 0 ∷ 5 ∷ 0 ∷ 0 ∷ 4 ∷ 0 ∷ 0 ∷ 0 ∷ 1 ∷ 29 ∷ 0 ∷ 0 ∷ 0 ∷ 0 ∷ 0 ∷ 16 ∷ 0 ∷ 80 ∷ 4 ∷ []

-- "AB", published to 1 by 2 of role 9, on subject 7 with priority 3 and context 0
abbrev pub saying : FrameV
saying = message (head_of Published 1 9 7 2 3 0) (65 ∷ 66 ∷ [])

abbrev pub saying_octets : List ℕ
saying_octets = 128 ∷ 16 ∷ 144 ∷ 7 ∷ 208 ∷ 35 ∷ 0 ∷ 2 ∷ 224 ∷ 0 ∷ 0 ∷ 0 ∷ 65 ∷ 66 ∷ []

-- the Module ID of number 3 and role 5; two frames written, and read; three starts that are none
abbrev pub Examples : Type 0
Examples =
    (module_id 3 0 5 ≡ 83886083)
    × (map write (asking ∷ saying ∷ []) ≡ asking_octets ∷ saying_octets ∷ [])
    × (map read (asking_octets ∷ saying_octets ∷ []) ≡ Ok asking ∷ Ok saying ∷ [])
    × (map (λ xs. told (read xs)) ((32 ∷ replicate 17 0) ∷ (31 ∷ replicate 17 0) ∷ replicate 17 19 ∷ []) ≡ Some (code 2 0 Frame) ∷ Some (code 3 0 Frame) ∷ Some (code 1 0 Frame) ∷ [])
