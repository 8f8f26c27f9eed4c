-- What is printed of an error of the script.
use Rattle.std.specs.Prelude.{ℕ, List, codes}
use Rattle.script.specs.declared.fault.Fault.{Fault}
use Rattle.script.specs.declared.fault.Fault.TheVariants.{UnknownCommand, WordCount, BadNumber, BadBytes, BadOrder, BadSink, TooLate}

abbrev pub fault_text : Fault → List ℕ
fault_text UnknownCommand = codes "no such command"
fault_text WordCount = codes "wrong count of words"
fault_text BadNumber = codes "not a number, or out of range"
fault_text BadBytes = codes "not bytes in hexadecimal digits"
fault_text BadOrder = codes "neither little nor big"
fault_text BadSink = codes "neither bytes nor words"
fault_text TooLate = codes "comes too late"
