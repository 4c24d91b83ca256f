-- The number, the octet place and the layer of every fault of this layer. Assumes nothing.
--     fault_of f         of a fault found in reading
--     write_fault_of f   of a refusal to write
--     layer_number l     1 word, 2 frame, 3 above
use Rattle.std.specs.Prelude.{ℕ}
use Rattle.wire.specs.declared.fault.FaultCode.{FaultCode}
use Rattle.wire.specs.declared.fault.Layer.{Layer}
use Rattle.wire.specs.declared.fault.Layer.TheVariants.{Word, Frame, Above}
use Rattle.wire.specs.declared.fault.FrameFault.{FrameFault}
use Rattle.wire.specs.declared.fault.FrameFault.TheVariants.{Short, Version, UnknownKind, Venture, Unit as OtherUnit, Signature, TimeCode, SupplementLength, ContentLength, Word as InWord, Role, Reference}
use Rattle.wire.specs.declared.fault.WriteFault.{WriteFault}
use Rattle.wire.specs.declared.fault.WriteFault.TheVariants.{ShortBuffer, OutOfRange}

abbrev pub code : ℕ → ℕ → Layer → FaultCode
code n p l = record { number = n; place = p; layer = l }

abbrev pub fault_of : FrameFault → FaultCode
fault_of Short = code 1 0 Frame
fault_of Version = code 2 0 Frame
fault_of UnknownKind = code 3 0 Frame
fault_of Venture = code 4 1 Frame
fault_of OtherUnit = code 4 2 Frame
fault_of Signature = code 4 5 Frame
fault_of TimeCode = code 4 12 Frame
fault_of SupplementLength = code 5 6 Frame
fault_of ContentLength = code 5 4 Frame
fault_of (InWord e) = code 6 e.place Word
fault_of Role = code 7 4 Frame
fault_of Reference = code 7 8 Frame

abbrev pub write_fault_of : WriteFault → FaultCode
write_fault_of ShortBuffer = code 23 0 Above
write_fault_of OutOfRange = code 12 0 Above

abbrev pub layer_number : Layer → ℕ
layer_number Word = 1
layer_number Frame = 2
layer_number Above = 3
