-- What a taken token says of the paper's tokens; `other_here`: no mark where another byte stands than it starts with.
pub mod Lexed
