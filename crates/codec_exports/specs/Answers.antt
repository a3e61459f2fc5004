-- What the exports answer: document 01's replies as structs of numbers. With a refusal every other field is 0; else the
-- refusal's number and value are 0.
-- Assumes nothing.
use Rattle.std.specs.Prelude.{ℕ, true, false, Option, Some, None}
use Rattle.seven_bit.specs.Reply.{Reply, granted, refused}
use Rattle.midici_core.specs.Header.{Header}
use Rattle.midici_core.specs.Caps.{Caps}
use Rattle.midici_core.specs.Message.{Message}
use Rattle.midici_core.specs.Kinds.{KindRow}
use Rattle.pe_frame.specs.Chunk.{Fields}
use Rattle.codec_exports.specs.declared.answer.HeaderFields.{HeaderFields}
use Rattle.codec_exports.specs.declared.answer.HeaderAnswer.{HeaderAnswer}
use Rattle.codec_exports.specs.declared.answer.CapsAnswer.{CapsAnswer}
use Rattle.codec_exports.specs.declared.answer.MessageAnswer.{MessageAnswer}
use Rattle.codec_exports.specs.declared.pe.ChunkAnswer.{ChunkAnswer}
use Rattle.codec_exports.specs.declared.answer.KindAnswer.{KindAnswer}
use Rattle.codec_exports.specs.declared.answer.GeneratedAnswer.{GeneratedAnswer}

-- A header's fields as the exports take and give them.
abbrev pub header_in : HeaderFields → Header
header_in h = record { device = h.device_id; kind = h.sub_id2; version = h.version; source = h.source; dest = h.dest }

abbrev pub header_out : Header → HeaderFields
header_out h = record { device_id = h.device; sub_id2 = h.kind; version = h.version; source = h.source; dest = h.dest }

abbrev pub no_header : Header
no_header = record { device = 0; kind = 0; version = 0; source = 0; dest = 0 }

abbrev pub header_answer_of : Reply Header → HeaderAnswer
header_answer_of (granted h) = record { refusal = 0; value = 0; header = header_out h }
header_answer_of (refused number value) = record { refusal = number; value = value; header = header_out no_header }

abbrev pub caps_in : HeaderFields → ℕ → ℕ → ℕ → Caps
caps_in h requests major minor = record { header = header_in h; requests = requests; major = major; minor = minor }

abbrev pub caps_answer_of : Reply Caps → CapsAnswer
caps_answer_of (granted c) =
    record { refusal = 0; value = 0; header = header_out c.header; simultaneous_requests = c.requests; pe_major = c.major; pe_minor = c.minor }
caps_answer_of (refused number value) =
    record { refusal = number; value = value; header = header_out no_header; simultaneous_requests = 0; pe_major = 0; pe_minor = 0 }

abbrev pub message_answer_of : Reply Message → MessageAnswer
message_answer_of (granted m) = record { refusal = 0; value = 0; header = header_out m.header; payload_at = m.payload_at; payload_len = m.payload_len }
message_answer_of (refused number value) =
    record { refusal = number; value = value; header = header_out no_header; payload_at = 0; payload_len = 0 }

abbrev pub chunk_out : ℕ → ℕ → Fields → ChunkAnswer
chunk_out number value f = record {
  refusal = number;
  value = value;
  request_id = f.request_id;
  header_len = f.header_len;
  num_chunks = f.num_chunks;
  chunk_num = f.chunk_num;
  property_at = f.property_at;
  property_len = f.property_len;
}

abbrev pub no_fields : Fields
no_fields = record { request_id = 0; header_len = 0; num_chunks = 0; chunk_num = 0; property_at = 0; property_len = 0 }

abbrev pub chunk_answer_of : Reply Fields → ChunkAnswer
chunk_answer_of (granted f) = chunk_out 0 0 f
chunk_answer_of (refused number value) = chunk_out number value no_fields

-- A kind's row; all 0 where it is none of the nine.
abbrev pub kind_answer_of : Option KindRow → KindAnswer
kind_answer_of (Some k) = record { known = true; sub_id2 = k.kind; chunked = k.chunked; reply = k.reply }
kind_answer_of None = record { known = false; sub_id2 = 0; chunked = false; reply = 0 }

abbrev pub generated_answer_of : Option ℕ → GeneratedAnswer
generated_answer_of (Some n) = record { found = true; number = n }
generated_answer_of None = record { found = false; number = 0 }
