-- The meaning of an answer of `keyword_of`: the model's keyword.
use Rattle.std.specs.Prelude.{Option, Some, None}
use Rattle.model.specs.Form.{class_word, field_word, method_word, end_word, object_word, set_word, add_word, send_word, reply_word, when_word, other_word}
use Rattle.model.specs.Form as model
use Rattle.text_syntax.specs.declared.keyword.Keyword.{Keyword}
use Rattle.text_syntax.specs.declared.keyword.Keyword.TheVariants.{Class, Field, Method, End, Object, Set, Add, Send, Reply, When}

abbrev pub said_keyword : Option Keyword → model.Keyword
said_keyword (Some Class) = class_word
said_keyword (Some Field) = field_word
said_keyword (Some Method) = method_word
said_keyword (Some End) = end_word
said_keyword (Some Object) = object_word
said_keyword (Some Set) = set_word
said_keyword (Some Add) = add_word
said_keyword (Some Send) = send_word
said_keyword (Some Reply) = reply_word
said_keyword (Some When) = when_word
said_keyword None = other_word
